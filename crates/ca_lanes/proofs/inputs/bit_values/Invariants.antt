use Rattle.std.proofs.Common.{◌≡◌, ℕ, take}
use Rattle.ca_lanes.specs.Choice.{choice_of}
use Rattle.ca_lanes.specs.code.Set.{bit_choice}
use Rattle.ca_lanes.proofs.inputs.bit_values.Given as goal

abbrev pub invariant-loop-lane : goal.invariant-loop-lane
invariant-loop-lane l = (lane : ℕ) → choice_of l.values lane ≡ bit_choice (take l.lane l.pairs) l.fn.place lane
