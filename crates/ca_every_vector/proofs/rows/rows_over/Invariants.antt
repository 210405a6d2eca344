use Rattle.ca_every_vector.specs.code.Masks.{HasAllBelow}
use Rattle.ca_every_vector.proofs.rows.rows_over.Given as goal

abbrev pub invariant-loop-number : goal.invariant-loop-number
invariant-loop-number l = HasAllBelow l.chip.core l.u l.values l.number l.rows
