use Rattle.std.specs.Prelude.{take}
use Rattle.ca_linked.specs.Linked.{net_count, gate_outputs}
use Rattle.ca_linked.specs.Paths.{AreMarks}
use Rattle.ca_merge.proofs.PinLemmas.{on_pins}
use Rattle.ca_merge.proofs.pins.driven_marks.Given as goal

abbrev pub invariant-loop-k : goal.invariant-loop-k
invariant-loop-k l = AreMarks (net_count l.chip) (on_pins gate_outputs l.chip (take l.k l.members)) l.marks
