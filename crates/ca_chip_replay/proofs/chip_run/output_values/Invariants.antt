use Rattle.ca_chip_replay.specs.code.Kept.{AreFirstValues}
use Rattle.ca_chip_replay.proofs.chip_run.output_values.Given as goal

abbrev pub invariant-loop-o : goal.invariant-loop-o
invariant-loop-o l = AreFirstValues l.view.core l.end l.o l.values.items
