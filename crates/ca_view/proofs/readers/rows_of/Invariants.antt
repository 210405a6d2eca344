use Rattle.ca_view.specs.Readers.{AreFirstRows}
use Rattle.ca_view.proofs.readers.rows_of.Given as goal

abbrev pub invariant-loop-net : goal.invariant-loop-net
invariant-loop-net l = AreFirstRows l.chip l.net l.rows.items
