-- Last values of the nets of the good network, found by the last vector of a pair alone.
use Rattle.std.specs.Prelude.{ℕ, ◌≡◌, ◌≢◌, ◌<◌, List, length}
use Rattle.ca_net.specs.declared.trit.Trit.{Trit}
use Rattle.ca_net.specs.declared.trit.Trit.TheVariants.{X}
use Rattle.ca_net.specs.declared.node.NodeKind.TheVariants.{Input}
use Rattle.ca_net.specs.Trit.{IsBelow}
use Rattle.ca_flat.specs.Chip.{Chip, cell_at, outputs_at, output_net, count_of, net_kind}
use Rattle.ca_flat.specs.Pair.{net_value}
use Rattle.ca_flips.specs.Static.{EndsByLast}
use Rattle.ca_flips.specs.Flips.{vector_at}

-- An input net has the last value of the pair or X, and an output net what the cell of its instance ends with
-- by the values of its input nets alone, or X.
pub record AreKnownLasts (chip : Chip) (pair : List Trit) (values : ℕ → Trit) : Type 0 where
  pub inputs : (net : ℕ) → net < length chip.nets → net_kind chip net ≡ Input
      → IsBelow (values net) (net_value chip pair (length chip.inputs) net)
  pub outputs : (u output : ℕ) → u < count_of chip → output < outputs_at chip u
      → values (output_net chip u output) ≢ X
      → EndsByLast (cell_at chip u) (vector_at chip u values) output (values (output_net chip u output))
