use Rattle.std.specs.Prelude.{◌≡◌, take}
use Rattle.ca_view.specs.Core.{core_of}
use Rattle.ca_view.proofs.ends.output_nets.Given as goal

abbrev pub invariant-loop-o : goal.invariant-loop-o
invariant-loop-o l = l.nets.items ≡ take l.o (core_of l.chip).outputs
