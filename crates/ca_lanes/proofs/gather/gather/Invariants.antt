use Rattle.std.proofs.Common.{◌≡◌, ℕ, length, take}
use Rattle.std.specs.Prelude.{vec_capacity}
use Rattle.ca_lanes.specs.Choice.{choices_of}
use Rattle.ca_lanes.specs.code.Evaluated.{pin_choices}
use Rattle.ca_lanes.proofs.gather.gather.Given as goal

abbrev pub invariant-loop-place : goal.invariant-loop-place
invariant-loop-place l = record {
  found : (lane : ℕ) → choices_of l.found.items lane ≡ pin_choices (choices_of l.nets lane) (take l.place l.pins);
  count : length l.found.items ≡ l.place;
  room : vec_capacity l.found ≡ vec_capacity l.fn.found;
}
