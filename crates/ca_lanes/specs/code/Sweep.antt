-- What only proofs of code cite: instances evaluated in a lane, in topological order.
use Rattle.std.specs.Prelude.{ℕ, ◌≡◌, ◌<◌, List, length}
use Rattle.ca_net.specs.declared.trit.Trit.{Trit}
use Rattle.ca_net.specs.declared.node.NodeKind.TheVariants.{Input}
use Rattle.ca_flat.specs.Chip.{Chip, outputs_at, output_net, net_kind}
use Rattle.ca_flat.specs.Pair.{net_value}
use Rattle.ca_flat.specs.TwoFrame.{IsCommon, FirstRowsGive, LastRowsGive}
use Rattle.ca_lanes.specs.Choice.{Choice, choice_for, choice_at, trit_for}
use Rattle.ca_lanes.specs.Loaded.{trits_for, IsOfTrit}
use Rattle.ca_lanes.specs.Netlist.{IsAmong}

-- each input net may be what the pair sets it to
pub record HasInputs (chip : Chip) (pair : List Trit) (firsts lasts : List Choice) : Type 0 where
  pub first : (net : ℕ) → net < length chip.nets → net_kind chip net ≡ Input
      → choice_at firsts net ≡ choice_for (net_value chip pair 0 net)
  pub last : (net : ℕ) → net < length chip.nets → net_kind chip net ≡ Input
      → choice_at lasts net ≡ choice_for (net_value chip pair (length chip.inputs) net)

-- the output nets of an instance have their plain two-frame values
pub record IsSettledAt (chip : Chip) (firsts lasts : List Choice) (u : ℕ) : Type 0 where
  pub first : (output : ℕ) → output < outputs_at chip u
      → IsCommon (FirstRowsGive chip u (trits_for firsts) output)
      (trit_for (choice_at firsts (output_net chip u output)))
  pub last : (output : ℕ) → output < outputs_at chip u
      → IsCommon (LastRowsGive chip u (trits_for firsts) (trits_for lasts) output)
      (trit_for (choice_at lasts (output_net chip u output)))
  pub first_is : (output : ℕ) → output < outputs_at chip u
      → IsOfTrit (choice_at firsts (output_net chip u output))
  pub last_is : (output : ℕ) → output < outputs_at chip u
      → IsOfTrit (choice_at lasts (output_net chip u output))

-- the first `count` instances are evaluated
pub record IsLoadedTo (chip : Chip) (pair : List Trit) (order : List ℕ) (count : ℕ)
    (firsts lasts : List Choice) : Type 0 where
  pub inputs : HasInputs chip pair firsts lasts
  pub settled : (u : ℕ) → IsAmong order count u → IsSettledAt chip firsts lasts u
