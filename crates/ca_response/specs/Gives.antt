-- The waves of a cell's output pins, as what every limits have.
use Rattle.std.specs.Prelude.{ℕ, ◌≡◌, ◌<◌, List, length, slice_index_or}
use Rattle.ca_net.specs.declared.trit.Trit.{Trit}
use Rattle.ca_net.specs.declared.trit.Trit.TheVariants.{X}
use Rattle.ca_net.specs.declared.wave.Wave.{Wave}
use Rattle.ca_net.specs.Circuit.{Circuit}
use Rattle.ca_net.specs.Limits.{AreLimits}
use Rattle.ca_net.specs.Wave.{firsts, mids, lasts}
use Rattle.ca_cell.specs.declared.raw.RawCell.{RawCell}
use Rattle.ca_cell.specs.Raw.{is_output, role_count}
use Rattle.ca_cell.specs.Exposes.{pin_vector}
use Rattle.ca_response.specs.Outputs.{wave_in, output_node}

-- the wave of which no value is known
abbrev pub unknown_wave : Wave
unknown_wave = record { first = X; mid = X; last = X }

-- the wave at a place, unknown past the list
abbrev pub wave_at : List Wave → ℕ → Wave
wave_at waves place = slice_index_or waves place unknown_wave

-- Each wave is that of an output pin, in pin order: whatever the limits are where the input pins have these
-- waves, they have it at the pin's node. Limits are determined, and there are some, so that this says which
-- list it is.
pub record Gives (raw : RawCell) (net : Circuit) (pins outputs : List Wave) : Type 0 where
  pub count : length outputs ≡ role_count is_output raw.pins
  pub each : (first middle last : List Trit)
      → AreLimits net (pin_vector net (firsts pins)) (pin_vector net (mids pins))
      (pin_vector net (lasts pins)) first middle last
      → (output : ℕ) → output < role_count is_output raw.pins
      → wave_at outputs output ≡ wave_in first middle last (output_node raw output)
