use Rattle.ca_examiner.specs.code.PinRows.{IsOverPins}
use Rattle.ca_examiner.proofs.rows.is_over.Given as goal

abbrev pub invariant-loop-pin : goal.invariant-loop-pin
invariant-loop-pin g l = IsOverPins (g.V.NetWaves.seen l.waves) l.end l.u l.number l.pin
