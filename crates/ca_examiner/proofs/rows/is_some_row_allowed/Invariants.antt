use Rattle.std.proofs.Common.{take}
use Rattle.ca_examiner.specs.code.PinRows.{IsNoneAllowed}
use Rattle.ca_examiner.proofs.rows.is_some_row_allowed.Given as goal

abbrev pub invariant-loop-place : goal.invariant-loop-place
invariant-loop-place g l = IsNoneAllowed (g.V.NetWaves.seen l.waves) l.u (take l.place l.rows)
