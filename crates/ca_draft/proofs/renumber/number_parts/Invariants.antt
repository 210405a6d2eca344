use Rattle.ca_draft.specs.code.OnWires.{numbered_part}
use Rattle.ca_draft.proofs.MarkLemmas.{IsChanged}
use Rattle.ca_draft.proofs.renumber.number_parts.Given as goal

abbrev pub invariant-loop-u : goal.invariant-loop-u
invariant-loop-u l = IsChanged (numbered_part l.table.numbers) l.u l.fn.parts.items l.parts.items
