-- Which vectors the pairs of a chip may give last at the input pins of an instance, by last values that a few
-- bits of the last vector give: what flips of the instance change there, and what they don't leave.
use Rattle.std.specs.Prelude.{ℕ, ◌≡◌, ◌≢◌, ◌<◌, ◌^◌, ◌⊎◌, Bool, List, length, slice_index, None}
use Rattle.ca_net.specs.declared.trit.Trit.{Trit}
use Rattle.ca_net.specs.declared.trit.Trit.TheVariants.{X}
use Rattle.ca_net.specs.declared.node.NodeKind.TheVariants.{Input}
use Rattle.ca_net.specs.Trit.{IsBelow}
use Rattle.ca_net.specs.State.{value_at}
use Rattle.ca_cell.specs.Row.{vector_of}
use Rattle.ca_cell.specs.declared.row.Row.{Row}
use Rattle.ca_cell.specs.Exposes.{IsExposingRow}
use Rattle.ca_flat.specs.declared.chip_defect.ChipDefect.{ChipDefect}
use Rattle.ca_flat.specs.Chip.{Chip, cell_at, inputs_at, outputs_at, net_of, output_net, count_of, net_kind}
use Rattle.ca_flat.specs.Pair.{bit_count}
use Rattle.ca_flat.specs.Waves.{FlatWaves, IsFlatChip}
use Rattle.ca_flat.specs.Detection.{IsUntestable, trits_of}
use Rattle.ca_flips.specs.Flips.{AreStaticAfter, AreDefiniteAfter, KeepsGood, IsEvaluated, lasts_of}
use Rattle.ca_flips.specs.Known.{AreKnownLasts}
use Rattle.ca_sweep.specs.declared.seen.Flips.{Flips}
use Rattle.ca_sweep.specs.Seen.{flipped_outputs}
use Rattle.ca_every_vector.specs.Possible.{Has, IsOfEach}

-- the instance w is evaluated, and the values at its input nets are known
pub record IsEvaluatedInside (chip : Chip) (w : ℕ) (values others : ℕ → Trit) : Type 0 where
  pub known : (pin : ℕ) → pin < inputs_at chip w → values (net_of chip w pin) ≢ X
  pub evaluated : IsEvaluated chip w others

-- The values of nets where these output pins of the instance u are flipped, found an instance at a time from
-- values that need not be known everywhere: each other instance than u keeps its values or is evaluated where
-- they are known, and no observed net has another one.
pub record StaysInside (chip : Chip) (u : ℕ) (values : ℕ → Trit) (flips : Flips) (others : ℕ → Trit) : Type 0
  where
    pub own : (output : ℕ) → output < outputs_at chip u → values (output_net chip u output) ≢ X
    pub given : (output : ℕ) → output < outputs_at chip u
        → others (output_net chip u output) ≡ flipped_outputs chip u values flips output
    pub inputs : (net : ℕ) → net < length chip.nets → net_kind chip net ≡ Input → others net ≡ values net
    pub each : (w : ℕ) → w < count_of chip → (w ≡ u → ⊥)
        → KeepsGood chip w values others ⊎ IsEvaluatedInside chip w values others
    pub unseen : (place : ℕ) → place < length chip.outputs
        → others (slice_index chip.outputs place) ≡ values (slice_index chip.outputs place)

-- whichever output pins of u are flipped, it stays inside
abbrev pub AllStayInside : Chip → ℕ → (ℕ → Trit) → Type 0
AllStayInside chip u values = (flips : Flips) → (others : ℕ → Trit) × StaysInside chip u values flips others

-- the mask has the number of each vector of the input pins of u at or above the values
abbrev pub HasAllFrom : Chip → ℕ → (ℕ → Trit) → ℕ → Type 0
HasAllFrom chip u values mask =
    (number : ℕ) → number < 2 ^ inputs_at chip u
    → ((pin : ℕ) → pin < inputs_at chip u
    → IsBelow (values (net_of chip u pin)) (value_at (vector_of (inputs_at chip u) number) pin))
    → Has mask number

-- of last values that the last bits of a partial pair give: either flips of u stay inside, or the mask has
-- the vectors at or above them
pub record HasLastsInside (chip : Chip) (u mask : ℕ) (partial : List Trit) : Type 0 where
  pub values : ℕ → Trit
  pub known : AreKnownLasts chip partial values
  pub has : AllStayInside chip u values ⊎ HasAllFrom chip u values mask

-- the instances after u are static, and under each definite pair the good last values are definite there
pub record IsSureAfter (chip : Chip) (u : ℕ) : Type 0 where
  pub all_static : AreStaticAfter chip u
  pub definite : (pair : List Bool) → length pair ≡ bit_count chip
      → (good : FlatWaves chip None (trits_of pair)) → AreDefiniteAfter chip u (lasts_of good)

-- A defect of an instance after which all is sure, and none of whose exposing rows has its last vector in a
-- mask that has all that matter, is one that no pair of the chip detects.
abbrev pub OutsideIsUntestable : Type 0
OutsideIsUntestable =
    (chip : Chip) (rank : ℕ → ℕ) (defect : ChipDefect) (lasts : ℕ)
    → IsFlatChip chip rank defect → IsSureAfter chip defect.instance
    → IsOfEach chip (HasLastsInside chip defect.instance lasts)
    → ((row : Row) → IsExposingRow (cell_at chip defect.instance) defect.defect row → Has lasts row.last → ⊥)
    → IsUntestable chip defect
