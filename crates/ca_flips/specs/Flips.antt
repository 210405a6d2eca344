-- Flips: the last values of the nets after an instance, where those of its output nets are given.
use Rattle.std.specs.Prelude.{ℕ, ◌+◌, ◌≡◌, ◌≢◌, ◌<◌, ◌⊎◌, List, length, slice_index_or, Option, None}
use Rattle.ca_net.specs.declared.trit.Trit.{Trit}
use Rattle.ca_net.specs.declared.trit.Trit.TheVariants.{Zero, One, X}
use Rattle.ca_net.specs.declared.wave.Wave.{Wave}
use Rattle.ca_net.specs.declared.node.NodeKind.TheVariants.{Input}
use Rattle.ca_net.specs.Trit.{IsBelow}
use Rattle.ca_net.specs.State.{value_at}
use Rattle.ca_net.specs.Circuit.{Circuit}
use Rattle.ca_net.specs.Limits.{AreLimits}
use Rattle.ca_net.specs.Wave.{firsts, mids, lasts}
use Rattle.ca_cell.specs.Exposes.{opposite_of, pin_vector}
use Rattle.ca_cell.specs.List.{faulty_of}
use Rattle.ca_flat.specs.declared.chip_defect.ChipDefect.{ChipDefect}
use Rattle.ca_flat.specs.Chip.{Chip, cell_at, inputs_at, outputs_at, net_of, output_net, count_of}
use Rattle.ca_flat.specs.Chip.{net_kind}
use Rattle.ca_flat.specs.Pair.{values_from}
use Rattle.ca_flat.specs.Waves.{FlatWaves, wave_of, unknown_wave}
use Rattle.ca_flat.specs.Chain.{Leads, IsReachedFrom}
use Rattle.ca_flips.specs.Static.{EndsByLast, IsStatic}

-- some input pin of the instance w is on a net that the instance u reaches
pub record IsAfter (chip : Chip) (u w : ℕ) : Type 0 where
  pub known : w < count_of chip
  pub pin : ℕ
  pub within : pin < inputs_at chip w
  pub reached : IsReachedFrom chip u (net_of chip w pin)

-- the cell of each instance after u is static
abbrev pub AreStaticAfter : Chip → ℕ → Type 0
AreStaticAfter chip u = (w : ℕ) → IsAfter chip u w → IsStatic (cell_at chip w)

-- the values of nets are definite at the output nets of u, and at each net that an instance after u reads
pub record AreDefiniteAfter (chip : Chip) (u : ℕ) (values : ℕ → Trit) : Type 0 where
  pub outputs : (output : ℕ) → output < outputs_at chip u → values (output_net chip u output) ≢ X
  pub read : (w pin : ℕ) → IsAfter chip u w → pin < inputs_at chip w → values (net_of chip w pin) ≢ X

-- the values of the input nets of the instance w, in pin order
abbrev pub vector_at : Chip → ℕ → (ℕ → Trit) → List Trit
vector_at chip w values = values_from (λ pin. values (net_of chip w pin)) 0 (inputs_at chip w)

-- The values of the nets where the output pins of u have these: each net that u doesn't reach has its good
-- value, and each instance after u has at its output nets what its cell ends with by the values of its input
-- nets alone.
pub record AreFlipped (chip : Chip) (u : ℕ) (goods outputs values : ℕ → Trit) : Type 0 where
  pub apart : (net : ℕ) → net < length chip.nets → ¬ (IsReachedFrom chip u net) → values net ≡ goods net
  pub given : (output : ℕ) → output < outputs_at chip u
      → values (output_net chip u output) ≡ outputs output
  pub following : (w output : ℕ) → IsAfter chip u w → output < outputs_at chip w
      → EndsByLast (cell_at chip w) (vector_at chip w values) output (values (output_net chip w output))

-- the instance w has good values at all its pins
pub record KeepsGood (chip : Chip) (w : ℕ) (goods values : ℕ → Trit) : Type 0 where
  pub pins : (pin : ℕ) → pin < inputs_at chip w → values (net_of chip w pin) ≡ goods (net_of chip w pin)
  pub outputs : (output : ℕ) → output < outputs_at chip w
      → values (output_net chip w output) ≡ goods (output_net chip w output)

-- the output nets of the instance w have what its cell ends with by the values of its input nets alone
abbrev pub IsEvaluated : Chip → ℕ → (ℕ → Trit) → Type 0
IsEvaluated chip w values =
    (output : ℕ) → output < outputs_at chip w
    → EndsByLast (cell_at chip w) (vector_at chip w values) output (values (output_net chip w output))

-- The values of the nets where the output pins of u have these, found an instance at a time: an input net has
-- its good value, and each other instance than u keeps good values or is evaluated.
pub record AreSwept (chip : Chip) (u : ℕ) (goods outputs values : ℕ → Trit) : Type 0 where
  pub inputs : (net : ℕ) → net < length chip.nets → net_kind chip net ≡ Input → values net ≡ goods net
  pub given : (output : ℕ) → output < outputs_at chip u
      → values (output_net chip u output) ≡ outputs output
  pub others : (w : ℕ) → w < count_of chip → (w ≡ u → ⊥)
      → KeepsGood chip w goods values ⊎ IsEvaluated chip w values

-- The values of nets that are known where the output pins of u have these: a net that u doesn't reach has its
-- good value or X, an output net of u has its output or X, and each output net of an instance after u has
-- what its cell ends with by the values of its input nets alone, be they definite or not, or X.
pub record AreKnownFlipped (chip : Chip) (u : ℕ) (goods outputs values : ℕ → Trit) : Type 0 where
  pub apart : (net : ℕ) → net < length chip.nets → ¬ (IsReachedFrom chip u net)
      → IsBelow (values net) (goods net)
  pub given : (output : ℕ) → output < outputs_at chip u
      → IsBelow (values (output_net chip u output)) (outputs output)
  pub following : (w output : ℕ) → IsAfter chip u w → output < outputs_at chip w
      → values (output_net chip w output) ≢ X
      → EndsByLast (cell_at chip w) (vector_at chip w values) output (values (output_net chip w output))

-- the value is definite, and the other is its opposite
abbrev pub IsOpposite : Trit → Trit → Type 0
IsOpposite good other = (good ≢ X) × (other ≡ opposite_of good)

-- The net is forced to the opposite of its good value: it has it for each choice of a definite value for each
-- output pin of u, at or above what is known of it.
abbrev pub IsForced : Chip → ℕ → (ℕ → Trit) → (ℕ → Trit) → ℕ → Type 0
IsForced chip u goods known net =
    (outputs values : ℕ → Trit)
    → ((output : ℕ) → output < outputs_at chip u → outputs output ≢ X)
    → ((output : ℕ) → output < outputs_at chip u → IsBelow (known output) (outputs output))
    → AreFlipped chip u goods outputs values → IsOpposite (goods net) (values net)

-- a value that is known, else the good one
abbrev pub known_or : Trit → Trit → Trit
known_or Zero good = Zero
known_or One good = One
known_or X good = good

-- what is known of the output pins of u, and of those of which nothing is known the good values of their nets
abbrev pub filled_in : Chip → ℕ → (ℕ → Trit) → (ℕ → Trit) → ℕ → Trit
filled_in chip u goods known output = known_or (known output) (goods (output_net chip u output))

-- the last value of each net
abbrev pub lasts_of : {chip : Chip} {given : Option ChipDefect} {pair : List Trit}
    → FlatWaves chip given pair → ℕ → Trit
lasts_of waves net = (wave_of waves net).last

-- the waves of the input nets of the instance u, in pin order
pub record ArePinWaves (chip : Chip) (wave : ℕ → Wave) (u : ℕ) (pins : List Wave) : Type 0 where
  pub count : length pins ≡ inputs_at chip u
  pub each : (pin : ℕ) → pin < inputs_at chip u
      → slice_index_or pins pin unknown_wave ≡ wave (net_of chip u pin)

-- the last values of the nets, whichever states have the good waves
abbrev pub AreLastsOf : Chip → List Trit → (ℕ → Trit) → Type 0
AreLastsOf chip pair goods =
    (good : FlatWaves chip None pair) (net : ℕ) → net < length chip.nets → lasts_of good net ≡ goods net

-- so are they, and these are the waves of the input nets of the instance u
pub record AreGoodLasts (chip : Chip) (pair : List Trit) (u : ℕ) (pins : List Wave) (goods : ℕ → Trit)
    : Type 0 where
  pub pin_waves : (good : FlatWaves chip None pair) → ArePinWaves chip (wave_of good) u pins
  pub lasts : AreLastsOf chip pair goods

-- the network of the cell of the defect's instance, with the defect
abbrev pub faulty_cell : Chip → ChipDefect → Circuit
faulty_cell chip defect = faulty_of (cell_at chip defect.instance) defect.defect

-- v is the last value of the output pin of the defect's instance: whatever the limits of its cell with the
-- defect are, where the input pins have these waves, they have it at the pin's node
abbrev pub IsFaultyLast : Chip → ChipDefect → List Wave → ℕ → Trit → Type 0
IsFaultyLast chip defect pins output v =
    (first middle last : List Trit)
    → AreLimits (faulty_cell chip defect) (pin_vector (faulty_cell chip defect) (firsts pins))
    (pin_vector (faulty_cell chip defect) (mids pins)) (pin_vector (faulty_cell chip defect) (lasts pins))
    first middle last
    → value_at last (2 + inputs_at chip defect.instance + output) ≡ v

-- so are the values of all output pins of the defect's instance
abbrev pub AreFaultyLasts : Chip → ChipDefect → List Wave → (ℕ → Trit) → Type 0
AreFaultyLasts chip defect pins outputs =
    (output : ℕ) → output < outputs_at chip defect.instance
    → IsFaultyLast chip defect pins output (outputs output)

-- so are the values of those output pins from whose nets a chain leads to the net
abbrev pub AreFaultyLastsTo : Chip → ChipDefect → List Wave → (ℕ → Trit) → ℕ → Type 0
AreFaultyLastsTo chip defect pins outputs net =
    (output : ℕ) → output < outputs_at chip defect.instance
    → Leads chip (output_net chip defect.instance output) net
    → IsFaultyLast chip defect pins output (outputs output)
