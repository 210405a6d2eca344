use Rattle.std.proofs.Common.{ℕ, ◌≡◌, ◌<◌, length}
use Rattle.std.specs.List.{All}
use Rattle.ca_net.specs.Wave.{IsWave}
use Rattle.ca_response.specs.Gives.{wave_at}
use Rattle.ca_flat.specs.Chip.{net_of}
use Rattle.ca_sweep.proofs.looks.pin_waves.Given as goal

abbrev pub invariant-loop-pin : goal.invariant-loop-pin
invariant-loop-pin l = record {
  count : length l.pins.items ≡ l.pin;
  each : (pin : ℕ) → pin < l.pin → wave_at l.pins.items pin ≡ wave_at l.waves (net_of l.chip.core l.u pin);
  are_waves : All IsWave l.pins.items;
}
