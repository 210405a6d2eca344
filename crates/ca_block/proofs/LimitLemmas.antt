-- The limits of a lane, for all vectors that have its values at the input nodes.
use Rattle.std.proofs.Common.{◌≡◌, ℕ, List, sym, ◌∙◌, ap, subst}
use Rattle.ca_net.specs.declared.trit.Trit.{Trit}
use Rattle.ca_net.specs.Trit.{IsBelow, meet_of}
use Rattle.ca_net.specs.Circuit.{Circuit, IsWellFormed, IsInput}
use Rattle.ca_net.specs.State.{value_at}
use Rattle.ca_net.specs.Limits.{IsFixed, IsFirstLimit, IsHeld, IsMiddleLimit, IsLastLimit, IsMeet}
use Rattle.ca_net.proofs.LastLimit.{last_limit_is_end_lem}
use Rattle.ca_settle.specs.code.Phase.{Begins}
use Rattle.ca_settle.specs.code.Turns.{IsMetWith, RisesTo, FallsTo}
use Rattle.ca_settle.proofs.PhaseLemmas.{ArePhases, middle_limit, are_limits}
use Rattle.ca_block.specs.Limits.{AreLimitsIn, EndIn}
use Rattle.ca_block.proofs.StateLemmas.{met_below}

-- two vectors have the same values at the input nodes
abbrev pub SameInputs : Circuit → List Trit → List Trit → Type 0
SameInputs net v w = (n : ℕ) → IsInput net n → value_at v n ≡ value_at w n

module _ (net : Circuit) where
  turned : (v w : List Trit) → SameInputs net v w → SameInputs net w v
  turned v w same n i = sym (same n i)

  fixed_as : (v w s : List Trit) → SameInputs net v w → IsFixed net v s → IsFixed net w s
  fixed_as v w s same h = record { is_state = h.is_state; inputs = λ n i. h.inputs n i ∙ same n i; fixed = h.fixed }

  held_as : (v w first s : List Trit) → SameInputs net v w → IsHeld net v first s → IsHeld net w first s
  held_as v w first s same h = record { is_state = h.is_state; inputs = λ n i. h.inputs n i ∙ same n i; below_first = h.below_first; held = h.held }

  pub first_as : (v w s : List Trit) → SameInputs net v w → IsFirstLimit net v s → IsFirstLimit net w s
  first_as v w s same h = record { fixed = fixed_as v w s same h.fixed; least = λ t fix. h.least t (fixed_as w v t (turned v w same) fix) }

  middle_as : (v w first s : List Trit) → SameInputs net v w → IsMiddleLimit net v first s → IsMiddleLimit net w first s
  middle_as v w first s same h = record { held = held_as v w first s same h.held; greatest = λ t held. h.greatest t (held_as w v first t (turned v w same) held) }

  last_as : (v w middle s : List Trit) → SameInputs net v w → IsLastLimit net v middle s → IsLastLimit net w middle s
  last_as v w middle s same h = record { fixed = fixed_as v w s same h.fixed; above = h.above; least = λ t fix above. h.least t (fixed_as w v t (turned v w same) fix) above }

  -- the phases of a lane, from its first limit on
  pub phases_from : IsWellFormed net → (from vm to first start_middle middle : List Trit) → IsFirstLimit net from first
      → IsMetWith to from vm → Begins net vm first start_middle → FallsTo net start_middle middle → ArePhases net from vm to first middle
  phases_from well_formed from vm to first start_middle middle is_first met begins_middle falls =
      let below = met_below from to vm met in
      record {
        well_formed = well_formed;
        below_last = below.1;
        is_first = is_first;
        is_middle = middle_limit net vm first start_middle begins_middle middle
            (λ n i. subst (λ x. IsBelow (value_at vm n) x) (sym (is_first.fixed.inputs n i)) (below.0 n)) falls;
      }

  -- its limits
  pub limits_in : (from vm to first middle start last : List Trit) → ArePhases net from vm to first middle → IsMetWith to from vm → Begins net to middle start
      → RisesTo net start last → AreLimitsIn net from to first middle last
  limits_in from vm to first middle start last phases met begins rises v1 wm v2 has_first has_last meets =
      let limits = are_limits net phases begins rises in
      record {
        is_first = first_as from v1 first has_first limits.is_first;
        is_middle = middle_as vm wm first middle
            (λ n i. met n ∙ ap (λ x. meet_of x (value_at to n)) (has_first n i) ∙ ap (meet_of (value_at v1 n)) (has_last n i) ∙ sym (meets n i)) limits.is_middle;
        is_last = last_as to v2 middle last has_last limits.is_last;
      }

  -- and what every run ends with there
  pub end_in : IsWellFormed net → (from vm to first middle last : List Trit) → IsMetWith to from vm → AreLimitsIn net from to first middle last → EndIn net from to last
  end_in well_formed from vm to first middle last met limits v1 v2 n v has_first has_last lt =
      let meets : IsMeet net v1 v2 vm = λ m i. met m ∙ ap (λ x. meet_of x (value_at to m)) (has_first m i) ∙ ap (meet_of (value_at v1 m)) (has_last m i) in
      last_limit_is_end_lem net v1 vm v2 first middle last n v well_formed lt meets (limits v1 vm v2 has_first has_last meets)
