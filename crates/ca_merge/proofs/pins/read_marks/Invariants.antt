use Rattle.std.specs.Prelude.{take}
use Rattle.ca_linked.specs.Linked.{net_count, gate_inputs}
use Rattle.ca_linked.specs.Paths.{AreMarks}
use Rattle.ca_merge.proofs.PinLemmas.{on_pins}
use Rattle.ca_merge.proofs.pins.read_marks.Given as goal

abbrev pub invariant-loop-k : goal.invariant-loop-k
invariant-loop-k l = AreMarks (net_count l.chip) (on_pins gate_inputs l.chip (take l.k l.members)) l.marks
