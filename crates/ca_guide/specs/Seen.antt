-- What the guide sees of a partial pair: the waves of the nets, and the bits that are set.
use Rattle.std.specs.Prelude.{ℕ, ◌+◌, ◌≡◌, ◌<◌, Bool, true, false, not, ◌&&◌, ◌||◌}
use Rattle.std.specs.Prelude.{List, length, map, Option, None, Some, slice_get, slice_index_or}
use Rattle.ca_net.specs.declared.trit.Trit.{Trit}
use Rattle.ca_net.specs.declared.trit.Trit.TheVariants.{Zero, One, X}
use Rattle.ca_net.specs.declared.wave.Wave.{Wave}
use Rattle.ca_flat.specs.declared.chip_defect.ChipDefect.{ChipDefect}
use Rattle.ca_flat.specs.Chip.{Chip}
use Rattle.ca_flat.specs.Pair.{bit_count}
use Rattle.ca_flat.specs.Codes.{bit_trit}
use Rattle.ca_flat.specs.Waves.{FlatWaves, wave_of, unknown_wave}
use Rattle.ca_guide.specs.Flood.{Area}
use Rattle.ca_view.specs.NetLists.{NetLists}

-- the good and the faulty wave of each net, and each bit
pub record Seen : Type 0 where
  pub good : List Wave
  pub faulty : List Wave
  pub bits : List (Option Bool)

-- the value of a bit that may be unset
abbrev pub set_trit : Option Bool → Trit
set_trit None = X
set_trit (Some value) = bit_trit value

-- the partial pair of the bits
abbrev pub pair_of : Seen → List Trit
pair_of seen = map set_trit seen.bits

-- the waves are the limits of the flat networks for the bits, good and with the defect
pub record ShowsWaves (chip : Chip) (defect : ChipDefect) (seen : Seen)
    (good : FlatWaves chip None (pair_of seen))
    (faulty : FlatWaves chip (Some defect) (pair_of seen)) : Type 0 where
  pub good_is : (net : ℕ) → net < length chip.nets → slice_get seen.good net ≡ Some (wave_of good net)
  pub faulty_is : (net : ℕ) → net < length chip.nets → slice_get seen.faulty net ≡ Some (wave_of faulty net)
  pub good_count : length seen.good ≡ length chip.nets
  pub faulty_count : length seen.faulty ≡ length chip.nets
  pub bits : length seen.bits ≡ bit_count chip

-- the value is 0 or 1
abbrev pub is_known : Trit → Bool
is_known Zero = true
is_known One = true
is_known X = false

-- the values are one
abbrev pub is_same : Trit → Trit → Bool
is_same Zero Zero = true
is_same One One = true
is_same X X = true
is_same Zero One = false
is_same Zero X = false
is_same One Zero = false
is_same One X = false
is_same X Zero = false
is_same X One = false

-- the test for waves that are one, from a definite value to a definite value, with a definite middle or a
-- change
abbrev pub is_closed_wave : Wave → Wave → Bool
is_closed_wave good faulty =
    (is_same good.first faulty.first && (is_same good.mid faulty.mid && is_same good.last faulty.last))
    && ((is_known good.first && is_known good.last)
    && (is_known good.mid || not (is_same good.first good.last)))

-- the test for the net's waves
abbrev pub is_closed_net : Seen → ℕ → Bool
is_closed_net seen net =
    is_closed_wave (slice_index_or seen.good net unknown_wave) (slice_index_or seen.faulty net unknown_wave)

-- the flood over the nets that aren't closed, up to an observed one
abbrev pub open_area : NetLists → Seen → Area
open_area lists seen = record {
  count = length lists.onward;
  enters = λ net. not (is_closed_net seen net);
  ends = λ net. slice_index_or lists.observed net false;
}

-- the flood over all nets
abbrev pub whole_area : NetLists → Area
whole_area lists = record { count = length lists.onward; enters = λ net. true; ends = λ net. false }

-- there are a good and a faulty wave of each net, and two bits of each chip input
pub record Covers (lists : NetLists) (seen : Seen) : Type 0 where
  pub good : length seen.good ≡ length lists.onward
  pub faulty : length seen.faulty ≡ length lists.onward
  pub bits : length seen.bits ≡ length lists.inputs + length lists.inputs
