use Rattle.ca_draft.specs.code.OnWires.{numbered_port}
use Rattle.ca_draft.proofs.MarkLemmas.{IsChanged}
use Rattle.ca_draft.proofs.renumber.number_ports.Given as goal

abbrev pub invariant-loop-p : goal.invariant-loop-p
invariant-loop-p l = IsChanged (numbered_port l.table.numbers) l.p l.fn.ports.items l.ports.items
