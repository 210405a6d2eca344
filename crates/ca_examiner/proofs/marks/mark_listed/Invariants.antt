use Rattle.ca_examiner.specs.code.Marks.{MarksListedTo}
use Rattle.ca_examiner.proofs.marks.mark_listed.Given as goal

abbrev pub invariant-loop-net : goal.invariant-loop-net
invariant-loop-net l = MarksListedTo l.others l.nets l.net-index l.fn.marks.items l.marks.items
