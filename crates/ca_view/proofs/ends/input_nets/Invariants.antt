use Rattle.std.specs.Prelude.{◌≡◌, take}
use Rattle.ca_view.specs.Core.{core_of}
use Rattle.ca_view.proofs.ends.input_nets.Given as goal

abbrev pub invariant-loop-i : goal.invariant-loop-i
invariant-loop-i l = l.nets.items ≡ take l.i (core_of l.chip).inputs
