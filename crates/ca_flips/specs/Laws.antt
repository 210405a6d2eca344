-- The laws of static cells and of flips.
use Rattle.std.specs.Prelude.{ℕ, ◌≡◌, ◌≢◌, ◌<◌, ◌↔◌, List, [], length, None, Some}
use Rattle.ca_net.specs.declared.trit.Trit.{Trit}
use Rattle.ca_net.specs.declared.trit.Trit.TheVariants.{X}
use Rattle.ca_net.specs.declared.wave.Wave.{Wave}
use Rattle.ca_net.specs.Trit.{IsBelow}
use Rattle.ca_net.specs.Circuit.{IsWellFormed}
use Rattle.ca_net.specs.State.{value_at, IsStateBelow}
use Rattle.ca_net.specs.Limits.{AreLimits}
use Rattle.ca_cell.specs.declared.raw.RawCell.{RawCell}
use Rattle.ca_cell.specs.Raw.{is_output, role_count, circuit_of}
use Rattle.ca_cell.specs.Exposes.{pin_vector, CellEndsAt}
use Rattle.ca_flat.specs.declared.chip_defect.ChipDefect.{ChipDefect}
use Rattle.ca_flat.specs.Chip.{Chip, IsChip, IsCell, outputs_at, output_net, count_of}
use Rattle.ca_flat.specs.Flat.{flat}
use Rattle.ca_flat.specs.Pair.{NetEndsAt, DetectsAt}
use Rattle.ca_flat.specs.Waves.{FlatWaves, wave_of, IsFlatChip}
use Rattle.ca_flat.specs.Chain.{Leads, IsReachedFrom}
use Rattle.ca_flips.specs.Static.{node_of_output, EndsByLast}
use Rattle.ca_flips.specs.Flips.{AreStaticAfter, AreDefiniteAfter, AreFlipped, AreKnownFlipped}
use Rattle.ca_flips.specs.Flips.{IsOpposite, IsForced}
use Rattle.ca_flips.specs.Flips.{filled_in, lasts_of, ArePinWaves, IsFaultyLast, AreFaultyLasts}
use Rattle.ca_flips.specs.Flips.{AreFaultyLastsTo, AreLastsOf, AreGoodLasts, AreSwept}
use Rattle.ca_flips.specs.Known.{AreKnownLasts}

-- a cell ends with v by the last vector alone exactly where v is definite and is the last limit at the output
-- pin for waves whose firsts and middles are unknown
abbrev pub EndsByLastIsLimit : Type 0
EndsByLastIsLimit =
    (raw : RawCell) (vector first middle last : List Trit) (output : ℕ) (v : Trit)
    → IsCell raw → output < role_count is_output raw.pins
    → AreLimits (circuit_of raw) (pin_vector (circuit_of raw) []) (pin_vector (circuit_of raw) [])
    (pin_vector (circuit_of raw) vector) first middle last
    → ((v ≢ X) × (value_at last (node_of_output raw output) ≡ v)) ↔ EndsByLast raw vector output v

-- where a cell ends with v by the last vector alone, v is the last limit for any waves with these lasts
abbrev pub LastsAreOfLasts : Type 0
LastsAreOfLasts =
    (raw : RawCell) (firsts middles vector first middle last : List Trit) (output : ℕ) (v : Trit)
    → IsCell raw → output < role_count is_output raw.pins
    → IsStateBelow middles firsts → IsStateBelow middles vector
    → AreLimits (circuit_of raw) (pin_vector (circuit_of raw) firsts) (pin_vector (circuit_of raw) middles)
    (pin_vector (circuit_of raw) vector) first middle last
    → EndsByLast raw vector output v → value_at last (node_of_output raw output) ≡ v

-- a cell ends with v by the last vector alone exactly where every run that keeps the vector ends with v; so
-- the rows of one vector of a cell show whether it is static
abbrev pub EndsByLastIsSteady : Type 0
EndsByLastIsSteady =
    (raw : RawCell) (vector : List Trit) (output : ℕ) (v : Trit) → IsCell raw
    → output < role_count is_output raw.pins
    → CellEndsAt (circuit_of raw) vector vector (node_of_output raw output) v ↔ EndsByLast raw vector output v

-- what a cell ends with by the last vector alone is one value
abbrev pub LastEndIsOne : Type 0
LastEndIsOne =
    (raw : RawCell) (vector : List Trit) (output : ℕ) (v w : Trit)
    → IsCell raw → output < role_count is_output raw.pins
    → EndsByLast raw vector output v → EndsByLast raw vector output w → v ≡ w

-- known lasts are at or below the good ones, so that a definite one is the good one
abbrev pub KnownLastsAreGood : Type 0
KnownLastsAreGood =
    (chip : Chip) (rank : ℕ → ℕ) (pair : List Trit) (good : FlatWaves chip None pair) (values : ℕ → Trit)
    (net : ℕ) → IsChip chip rank → IsWellFormed (flat chip None) → AreKnownLasts chip pair values
    → net < length chip.nets → IsBelow (values net) (lasts_of good net)

-- the last value of an output pin of the defect's instance, under the good waves of its input nets, is that
-- of the faulty network
abbrev pub FaultyLastIsGiven : Type 0
FaultyLastIsGiven =
    (chip : Chip) (rank : ℕ → ℕ) (defect : ChipDefect) (pair : List Trit) (good : FlatWaves chip None pair)
    (faulty : FlatWaves chip (Some defect) pair) (pins : List Wave) (output : ℕ) (v : Trit)
    → IsFlatChip chip rank defect → ArePinWaves chip (wave_of good) defect.instance pins
    → output < outputs_at chip defect.instance → IsFaultyLast chip defect pins output v
    → lasts_of faulty (output_net chip defect.instance output) ≡ v

-- states with the good waves give the last values of the nets and the waves of an instance's input nets
abbrev pub GoodLastsAreOfWaves : Type 0
GoodLastsAreOfWaves =
    (chip : Chip) (pair : List Trit) (good : FlatWaves chip None pair) (u : ℕ) (pins : List Wave)
    → ArePinWaves chip (wave_of good) u pins → AreGoodLasts chip pair u pins (lasts_of good)

-- where the outputs are at or above the faulty lasts of the defect's instance, so are the flipped values
abbrev pub FlippedAreAbove : Type 0
FlippedAreAbove =
    (chip : Chip) (rank : ℕ → ℕ) (defect : ChipDefect) (pair : List Trit) (good : FlatWaves chip None pair)
    (faulty : FlatWaves chip (Some defect) pair) (outputs values : ℕ → Trit) (net : ℕ)
    → IsFlatChip chip rank defect
    → ((output : ℕ) → output < outputs_at chip defect.instance
    → IsBelow (lasts_of faulty (output_net chip defect.instance output)) (outputs output))
    → AreFlipped chip defect.instance (lasts_of good) outputs values → net < length chip.nets
    → IsBelow (lasts_of faulty net) (values net)

-- where the outputs that lead to a net are the faulty lasts of the defect's instance, the flipped value of
-- the net is its faulty last
abbrev pub FlippedAreFaulty : Type 0
FlippedAreFaulty =
    (chip : Chip) (rank : ℕ → ℕ) (defect : ChipDefect) (pair : List Trit) (good : FlatWaves chip None pair)
    (faulty : FlatWaves chip (Some defect) pair) (pins : List Wave) (outputs values : ℕ → Trit) (net : ℕ)
    → IsFlatChip chip rank defect → ArePinWaves chip (wave_of good) defect.instance pins
    → AreFaultyLastsTo chip defect pins outputs net
    → AreFlipped chip defect.instance (lasts_of good) outputs values → net < length chip.nets
    → lasts_of faulty net ≡ values net

-- so there the pair detects the defect exactly where the flipped value is the opposite of the good one
abbrev pub DetectedIsFlipped : Type 0
DetectedIsFlipped =
    (chip : Chip) (rank : ℕ → ℕ) (defect : ChipDefect) (pair : List Trit) (pins : List Wave)
    (goods outputs values : ℕ → Trit) (net : ℕ)
    → IsFlatChip chip rank defect → AreGoodLasts chip pair defect.instance pins goods
    → AreFaultyLastsTo chip defect pins outputs net
    → AreFlipped chip defect.instance goods outputs values → net < length chip.nets
    → DetectsAt chip defect pair net ↔ IsOpposite (goods net) (values net)

-- so the flipped value is what every run of the faulty network ends with there
abbrev pub FlippedAreEnds : Type 0
FlippedAreEnds =
    (chip : Chip) (rank : ℕ → ℕ) (defect : ChipDefect) (pair : List Trit) (pins : List Wave)
    (goods outputs values : ℕ → Trit) (net : ℕ) (v : Trit)
    → IsFlatChip chip rank defect → AreGoodLasts chip pair defect.instance pins goods
    → AreFaultyLastsTo chip defect pins outputs net
    → AreFlipped chip defect.instance goods outputs values → net < length chip.nets
    → ((v ≢ X) × (values net ≡ v)) ↔ NetEndsAt chip (Some defect) pair net v

-- Where the pair detects the defect, the faulty lasts that are definite and opposite are enough to make the
-- flipped value opposite: in the place of each that is unknown stands the good value. So a net whose flipped
-- value then isn't opposite is one at which the defect isn't detected.
abbrev pub DetectedIsFilledIn : Type 0
DetectedIsFilledIn =
    (chip : Chip) (rank : ℕ → ℕ) (defect : ChipDefect) (pair : List Trit) (pins : List Wave)
    (goods known values : ℕ → Trit) (net : ℕ)
    → IsFlatChip chip rank defect → AreGoodLasts chip pair defect.instance pins goods
    → AreFaultyLasts chip defect pins known
    → AreFlipped chip defect.instance goods (filled_in chip defect.instance goods known) values
    → net < length chip.nets → DetectsAt chip defect pair net → IsOpposite (goods net) (values net)

-- a net at which the pair detects the defect is forced to the opposite by what is known of the faulty lasts
abbrev pub DetectedIsForced : Type 0
DetectedIsForced =
    (chip : Chip) (rank : ℕ → ℕ) (defect : ChipDefect) (pair : List Trit) (pins : List Wave)
    (goods known : ℕ → Trit) (net : ℕ)
    → IsFlatChip chip rank defect → AreGoodLasts chip pair defect.instance pins goods
    → AreFaultyLasts chip defect pins known → net < length chip.nets
    → DetectsAt chip defect pair net → IsForced chip defect.instance goods known net

-- where what is known of the faulty lasts makes a net opposite, the pair detects the defect there
abbrev pub KnownFlippedIsDetected : Type 0
KnownFlippedIsDetected =
    (chip : Chip) (rank : ℕ → ℕ) (defect : ChipDefect) (pair : List Trit) (pins : List Wave)
    (goods known values : ℕ → Trit) (net : ℕ)
    → IsFlatChip chip rank defect → AreGoodLasts chip pair defect.instance pins goods
    → AreFaultyLasts chip defect pins known
    → AreKnownFlipped chip defect.instance goods known values → net < length chip.nets
    → IsOpposite (goods net) (values net) → DetectsAt chip defect pair net

-- where all instances after that of the defect are static, the good lasts are definite there, and no faulty
-- last of the instance is definite and the opposite of the good one, the defect is detected at no net
abbrev pub UnflippedIsUndetected : Type 0
UnflippedIsUndetected =
    (chip : Chip) (rank : ℕ → ℕ) (defect : ChipDefect) (pair : List Trit) (pins : List Wave)
    (goods known : ℕ → Trit) (net : ℕ)
    → IsFlatChip chip rank defect → AreGoodLasts chip pair defect.instance pins goods
    → AreStaticAfter chip defect.instance → AreDefiniteAfter chip defect.instance goods
    → AreFaultyLasts chip defect pins known
    → ((output : ℕ) → output < outputs_at chip defect.instance
    → ¬ (IsOpposite (goods (output_net chip defect.instance output)) (known output)))
    → net < length chip.nets → DetectsAt chip defect pair net → ⊥

-- after static instances, where the good lasts are definite, values that are found an instance at a time are
-- the flipped ones
abbrev pub SweptAreFlipped : Type 0
SweptAreFlipped =
    (chip : Chip) (rank : ℕ → ℕ) (pair : List Trit) (u : ℕ) (goods outputs values : ℕ → Trit)
    → IsChip chip rank → IsWellFormed (flat chip None) → u < count_of chip → AreLastsOf chip pair goods
    → AreStaticAfter chip u → AreDefiniteAfter chip u goods → AreSwept chip u goods outputs values
    → AreFlipped chip u goods outputs values

-- flipped values are one
abbrev pub FlippedAreUnique : Type 0
FlippedAreUnique =
    (chip : Chip) (rank : ℕ → ℕ) (u : ℕ) (goods outputs values others : ℕ → Trit) (net : ℕ)
    → IsChip chip rank → u < count_of chip → AreFlipped chip u goods outputs values
    → AreFlipped chip u goods outputs others → net < length chip.nets → values net ≡ others net

-- where all instances after u are static, and the good values are definite there, there are flipped values
-- for all definite outputs; which they are is found by computing, so that all that is said here is that none
-- can't be
abbrev pub FlippedAreThere : Type 0
FlippedAreThere =
    (chip : Chip) (rank : ℕ → ℕ) (u : ℕ) (goods outputs : ℕ → Trit)
    → IsChip chip rank → u < count_of chip → AreStaticAfter chip u → AreDefiniteAfter chip u goods
    → ((output : ℕ) → output < outputs_at chip u → outputs output ≢ X)
    → ((values : ℕ → Trit) → AreFlipped chip u goods outputs values → ⊥) → ⊥

-- for definite outputs the flipped values of all nets that u reaches are definite
abbrev pub FlippedAreDefinite : Type 0
FlippedAreDefinite =
    (chip : Chip) (rank : ℕ → ℕ) (u : ℕ) (goods outputs values : ℕ → Trit) (net : ℕ)
    → IsChip chip rank → u < count_of chip
    → ((output : ℕ) → output < outputs_at chip u → outputs output ≢ X)
    → AreFlipped chip u goods outputs values → IsReachedFrom chip u net → values net ≢ X

-- where all instances after that of the defect are static, the good lasts are definite there, and each
-- faulty last of the instance that leads to a net is definite, the defect is detected at the net exactly
-- where they force it to the opposite
abbrev pub DetectedWhereForced : Type 0
DetectedWhereForced =
    (chip : Chip) (rank : ℕ → ℕ) (defect : ChipDefect) (pair : List Trit) (pins : List Wave)
    (goods known : ℕ → Trit) (net : ℕ)
    → IsFlatChip chip rank defect → AreGoodLasts chip pair defect.instance pins goods
    → AreStaticAfter chip defect.instance → AreDefiniteAfter chip defect.instance goods
    → AreFaultyLasts chip defect pins known
    → ((output : ℕ) → output < outputs_at chip defect.instance
    → Leads chip (output_net chip defect.instance output) net → known output ≢ X)
    → net < length chip.nets
    → DetectsAt chip defect pair net ↔ IsForced chip defect.instance goods known net
