-- What a cell ends with by the last vector alone, and its limits over any waves.
use Rattle.std.proofs.Common.{◌≡◌, ℕ, zero, suc, ◌+◌, ◌<◌, ◌≤◌, List, [], ◌∷◌, length, inl, inr, refl, sym, ◌∙◌}
use Rattle.std.proofs.Common.{ap, subst, arith, get_or}
use Rattle.std.proofs.lemmas.Bool.{cases_lt}
use Rattle.ca_net.specs.declared.scale.TheConstants.{INNER_NODE, OUTPUT_NET}
use Rattle.ca_net.specs.declared.trit.Trit.{Trit}
use Rattle.ca_net.specs.declared.trit.Trit.TheVariants.{Zero, One, X}
use Rattle.ca_net.specs.declared.node.NodeKind.{NodeKind}
use Rattle.ca_net.specs.declared.node.NodeKind.TheVariants.{Input, Storage}
use Rattle.ca_net.specs.Trit.{IsBelow, meet_of}
use Rattle.ca_net.specs.Circuit.{Circuit, IsWellFormed, IsInput}
use Rattle.ca_net.specs.State.{value_at, IsStateBelow}
use Rattle.ca_net.specs.PairRun.{EndsAt}
use Rattle.ca_net.specs.Wave.{at_inputs}
use Rattle.ca_net.specs.Limits.{AreLimits, IsMeet}
use Rattle.ca_net.proofs.StateLemmas.{IsBelow-trans}
use Rattle.ca_net.proofs.LastLimit.{last_limit_is_end_lem}
use Rattle.ca_parts.specs.Composition.{InputsUnder}
use Rattle.ca_parts.proofs.TritLemmas.{same_stable, kept, meet_same}
use Rattle.ca_parts.proofs.RisingLimits.{limits_rise_lem, limits_exist_lem, steady_limits_lem}
use Rattle.ca_parts.proofs.EndLaws.{meets, are_meets, meets_under_first, meets_under_last, ends_are_unique_lem}
use Rattle.ca_parts.proofs.EndLaws.{ends_are_kept_lem}
use Rattle.ca_cell.specs.Raw.{is_input, is_output, role_count, circuit_of}
use Rattle.ca_cell.specs.Exposes.{pin_vector, CellEndsAt}
use Rattle.ca_flat.proofs.Shapes.{IsCellCircuit, good_circuit}
use Rattle.ca_flips.specs.Static.{node_of_output, EndsByLast}
use Rattle.ca_flips.specs.Laws.{EndsByLastIsLimit, LastsAreOfLasts, LastEndIsOne, EndsByLastIsSteady}

-- what can't fail to be below is below
pub below_stable : (a b : Trit) → ((IsBelow a b → ⊥) → ⊥) → IsBelow a b
below_stable X b h = inl refl
below_stable Zero Zero h = inr refl
below_stable Zero One h = absurd (h (λ p. elim p [ inl e ↦ cc | inr e ↦ cc ]))
below_stable Zero X h = absurd (h (λ p. elim p [ inl e ↦ cc | inr e ↦ cc ]))
below_stable One Zero h = absurd (h (λ p. elim p [ inl e ↦ cc | inr e ↦ cc ]))
below_stable One One h = inr refl
below_stable One X h = absurd (h (λ p. elim p [ inl e ↦ cc | inr e ↦ cc ]))

-- a value is below another where that is the same wherever it is definite
pub below_if : (low high : Trit) → ((low ≡ X → ⊥) → high ≡ low) → IsBelow low high
below_if X high same = inl refl
below_if Zero high same = inr (sym (same (λ e. cc)))
below_if One high same = inr (sym (same (λ e. cc)))

-- every run for the vectors a and b ends with v at the node n
module _ (c : Circuit) (formed : IsWellFormed c) (a b : List Trit) (n : ℕ) (v : Trit) (within : n < length c.nodes) (ends : EndsAt c a b n v) where
  -- so do limits over higher waves
  pub last_is : (v1 vm v2 first middle last : List Trit) → InputsUnder c a v1 → InputsUnder c a vm → InputsUnder c b v2 → InputsUnder c vm v1
      → AreLimits c v1 vm v2 first middle last → value_at last n ≡ v
  last_is v1 vm v2 first middle last up1 upm up2 mid limits = same_stable _ _ (λ out.
      limits_exist_lem c a (meets c a b) b formed (meets_under_first c a b) (meets_under_last c a b) (λ f m l low.
      let e : value_at l n ≡ v = ((last_limit_is_end_lem c a (meets c a b) b f m l n v formed within (are_meets c a b) low).1 ends).1 in
      let r = limits_rise_lem c _ _ _ _ _ _ _ _ _ _ _ _ formed up1 (λ k i. IsBelow-trans _ _ _ (meets_under_first c a b k i) (upm k i)) up2 (meets_under_last c a b) mid low limits in
      out (kept v _ ends.definite (subst (λ x. IsBelow x (value_at last n)) e (r.last_below n)))))

  -- limits over waves whose lasts are lower are below v
  pub last_below : (v1 vm v2 first middle last : List Trit) → InputsUnder c a v1 → InputsUnder c a vm → InputsUnder c v2 b → InputsUnder c vm v1 → InputsUnder c vm v2
      → AreLimits c v1 vm v2 first middle last → IsBelow (value_at last n) v
  last_below v1 vm v2 first middle last up1 upm down mid mid_last limits = below_stable _ _ (λ out.
      limits_exist_lem c v1 vm b formed mid (λ k i. IsBelow-trans _ _ _ (mid_last k i) (down k i)) (λ f m l high.
      let e : value_at l n ≡ v = last_is v1 vm b f m l up1 upm (λ k i. inr refl) mid high in
      let r = limits_rise_lem c _ _ _ _ _ _ _ _ _ _ _ _ formed (λ k i. inr refl) (λ k i. inr refl) down mid_last mid limits high in
      out (subst (λ x. IsBelow (value_at last n) x) e (r.last_below n))))

-- values that are given to input nodes which all stand first are at their own places
at_first_inputs : (kinds : List NodeKind) (values : List Trit) (n : ℕ) → n < length kinds → ((m : ℕ) → m ≤ n → get_or kinds m Input ≡ Input)
    → value_at (at_inputs kinds values) n ≡ value_at values n
at_first_inputs [] values n lt all = absurd (omega arith)
at_first_inputs (Storage size ∷ kinds) values n lt all = absurd (let e : Storage size ≡ Input = all 0 (omega arith) in cc)
at_first_inputs (Input ∷ kinds) [] zero lt all = refl
at_first_inputs (Input ∷ kinds) [] (suc n) lt all = at_first_inputs kinds [] n (omega arith) (λ m le. all (suc m) (omega arith))
at_first_inputs (Input ∷ kinds) (value ∷ values) zero lt all = refl
at_first_inputs (Input ∷ kinds) (value ∷ values) (suc n) lt all = at_first_inputs kinds values n (omega arith) (λ m le. all (suc m) (omega arith))

-- the network of a cell, whose input nodes are the rails and the input pins
module _ (c : Circuit) (inputs outputs : ℕ) (cell : IsCellCircuit inputs outputs c) where
  pub input_low : (n : ℕ) → IsInput c n → n < 2 + inputs
  input_low n i = elim (cases_lt n (2 + inputs)) [
    | inl lt ↦ lt
    | inr ge ↦ elim (cases_lt n (2 + inputs + outputs)) [
      | inl lt ↦ absurd (let e : Storage OUTPUT_NET ≡ Input = sym (cell.driven n ge lt) ∙ i.1 in cc)
      | inr past ↦ absurd (let e : Storage INNER_NODE ≡ Input = sym (cell.inner n past i.0) ∙ i.1 in cc)
    ]
  ]

  pub vector_value : (a : List Trit) (n : ℕ) → n < 2 + inputs → value_at (pin_vector c a) n ≡ value_at (One ∷ Zero ∷ a) n
  vector_value a n low = let k = cell.counted in at_first_inputs c.nodes (One ∷ Zero ∷ a) n (omega arith) (λ m le. cell.given m (omega arith))

  railed_under : (a b : List Trit) → IsStateBelow a b → (n : ℕ) → IsBelow (value_at (One ∷ Zero ∷ a) n) (value_at (One ∷ Zero ∷ b) n)
  railed_under a b up zero = inr refl
  railed_under a b up (suc zero) = inr refl
  railed_under a b up (suc (suc n)) = up n

  -- vectors of pins rise with their values
  pub vector_under : (a b : List Trit) → IsStateBelow a b → InputsUnder c (pin_vector c a) (pin_vector c b)
  vector_under a b up n i =
      let low = input_low n i in
      subst (λ x. IsBelow x (value_at (pin_vector c b) n)) (sym (vector_value a n low))
      (subst (λ x. IsBelow (value_at (One ∷ Zero ∷ a) n) x) (sym (vector_value b n low)) (railed_under a b up n))

  unknown_railed : (b : List Trit) (n : ℕ) → value_at (One ∷ Zero ∷ []) n ≡ meet_of (value_at (One ∷ Zero ∷ []) n) (value_at (One ∷ Zero ∷ b) n)
  unknown_railed b zero = refl
  unknown_railed b (suc zero) = refl
  unknown_railed b (suc (suc n)) = refl

  -- the meet of a vector with that of unknown pins is the latter
  pub unknown_meet : (b : List Trit) → IsMeet c (pin_vector c []) (pin_vector c b) (pin_vector c [])
  unknown_meet b n i =
      let low = input_low n i in
      vector_value [] n low ∙ unknown_railed b n
      ∙ ap (λ x. meet_of x (value_at (One ∷ Zero ∷ b) n)) (sym (vector_value [] n low))
      ∙ ap (λ x. meet_of (value_at (pin_vector c []) n) x) (sym (vector_value b n low))

pub ends_by_last_is_limit_lem : EndsByLastIsLimit
ends_by_last_is_limit_lem raw vector first middle last output v is within limits =
    let cell = good_circuit raw is in
    let k = cell.counted in
    last_limit_is_end_lem (circuit_of raw) _ _ _ first middle last (node_of_output raw output) v cell.formed (omega arith)
    (unknown_meet (circuit_of raw) (role_count is_input raw.pins) (role_count is_output raw.pins) cell vector) limits

pub lasts_are_of_lasts_lem : LastsAreOfLasts
lasts_are_of_lasts_lem raw firsts middles vector first middle last output v is within under_first under_last limits ends =
    let cell = good_circuit raw is in
    let k = cell.counted in
    let under = vector_under (circuit_of raw) (role_count is_input raw.pins) (role_count is_output raw.pins) cell in
    last_is (circuit_of raw) cell.formed (pin_vector (circuit_of raw) []) (pin_vector (circuit_of raw) vector) (node_of_output raw output) v (omega arith) ends
    _ _ _ first middle last (under [] firsts (λ n. inl refl)) (under [] middles (λ n. inl refl)) (λ n i. inr refl) (under middles firsts under_first) limits

pub last_end_is_one_lem : LastEndIsOne
last_end_is_one_lem raw vector output v w is within one two =
    let cell = good_circuit raw is in
    let k = cell.counted in
    ends_are_unique_lem (circuit_of raw) _ _ (node_of_output raw output) v w cell.formed (omega arith) one two

-- the last limit over a vector is at or above the first limit over it, which is the last one of runs that keep it
pub ends_by_last_is_steady_lem : EndsByLastIsSteady
ends_by_last_is_steady_lem raw vector output v is within = (to_last, from_last)
  where
    c : Circuit
    c = circuit_of raw

    cell : IsCellCircuit (role_count is_input raw.pins) (role_count is_output raw.pins) (circuit_of raw)
    cell = good_circuit raw is

    inside : node_of_output raw output < length (circuit_of raw).nodes
    inside = let k = cell.counted in omega arith

    from_last : EndsByLast raw vector output v → CellEndsAt (circuit_of raw) vector vector (node_of_output raw output) v
    from_last ends = ends_are_kept_lem (circuit_of raw) _ _ (pin_vector (circuit_of raw) vector) (pin_vector (circuit_of raw) vector) (node_of_output raw output) v
        (vector_under (circuit_of raw) (role_count is_input raw.pins) (role_count is_output raw.pins) cell [] vector (λ n. inl refl)) (λ n i. inr refl) ends

    reached : CellEndsAt (circuit_of raw) vector vector (node_of_output raw output) v → (EndsByLast raw vector output v → ⊥) → ⊥
    reached ends out =
        let under = vector_under (circuit_of raw) (role_count is_input raw.pins) (role_count is_output raw.pins) cell [] vector (λ n. inl refl) in
        limits_exist_lem (circuit_of raw) (pin_vector (circuit_of raw) []) (pin_vector (circuit_of raw) []) (pin_vector (circuit_of raw) vector) cell.formed (λ n i. inr refl) under (λ f m l low.
        limits_exist_lem (circuit_of raw) (pin_vector (circuit_of raw) vector) (pin_vector (circuit_of raw) vector) (pin_vector (circuit_of raw) vector) cell.formed (λ n i. inr refl) (λ n i. inr refl) (λ first middle last steady.
        let at_last : value_at last (node_of_output raw output) ≡ v =
        ((last_limit_is_end_lem (circuit_of raw) _ _ _ first middle last (node_of_output raw output) v cell.formed inside (λ n i. sym (meet_same _)) steady).1 ends).1 in
        let at_first : value_at first (node_of_output raw output) ≡ v =
        sym (steady_limits_lem (circuit_of raw) (pin_vector (circuit_of raw) vector) first middle last cell.formed steady (node_of_output raw output)) ∙ at_last in
        let up : IsBelow (value_at first (node_of_output raw output)) (value_at l (node_of_output raw output)) = steady.is_first.least l low.is_last.fixed (node_of_output raw output) in
        out ((ends_by_last_is_limit_lem raw vector f m l output v is within low).0
        (ends.definite, kept v _ ends.definite (subst (λ x. IsBelow x (value_at l (node_of_output raw output))) at_first up)))))

    to_last : CellEndsAt (circuit_of raw) vector vector (node_of_output raw output) v → EndsByLast raw vector output v
    to_last ends = record {
      definite = ends.definite;
      every_run = λ end run. same_stable _ _ (λ differs. reached ends (λ held. differs (held.every_run end run)));
    }
