-- Which nets are open, seen in their waves.
use Rattle.std.specs.Prelude.{ℕ, ◌≡◌, ◌<◌, Bool, true, false, not, ◌&&◌, ◌||◌, List, length, slice_index_or}
use Rattle.ca_net.specs.declared.trit.Trit.{Trit}
use Rattle.ca_net.specs.declared.trit.Trit.TheVariants.{Zero, One, X}
use Rattle.ca_net.specs.declared.wave.Wave.{Wave}
use Rattle.ca_response.specs.Gives.{wave_at}
use Rattle.ca_sim.specs.Seen.{Seen}

-- the value is 0 or 1
abbrev pub is_known : Trit → Bool
is_known Zero = true
is_known One = true
is_known X = false

-- the values are one
abbrev pub is_same : Trit → Trit → Bool
is_same Zero Zero = true
is_same One One = true
is_same X X = true
is_same Zero One = false
is_same Zero X = false
is_same One Zero = false
is_same One X = false
is_same X Zero = false
is_same X One = false

-- the test for waves that are one, from a definite value to a definite value, with a definite middle or a
-- change
abbrev pub is_closed_wave : Wave → Wave → Bool
is_closed_wave good faulty =
    (is_same good.first faulty.first && (is_same good.mid faulty.mid && is_same good.last faulty.last))
    && ((is_known good.first && is_known good.last)
    && (is_known good.mid || not (is_same good.first good.last)))

-- the test for the net's waves
abbrev pub is_closed_net : Seen → ℕ → Bool
is_closed_net seen net = is_closed_wave (wave_at seen.good net) (wave_at seen.faulty net)

-- of the first `count` nets those are marked that aren't closed
pub record AreOpenTo (seen : Seen) (count : ℕ) (marks : List Bool) : Type 0 where
  pub size : length marks ≡ length seen.chip.nets
  pub each : (net : ℕ) → net < count → slice_index_or marks net false ≡ not (is_closed_net seen net)

-- of all nets
abbrev pub AreOpenNets : Seen → List Bool → Type 0
AreOpenNets seen marks = AreOpenTo seen (length seen.chip.nets) marks
