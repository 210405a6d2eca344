use Rattle.std.proofs.Common.{take}
use Rattle.std.specs.List.{All}
use Rattle.ca_every_vector.specs.code.Inside.{IsLastOut}
use Rattle.ca_every_vector.proofs.every_vector.are_lasts_out.Given as goal

abbrev pub invariant-loop-place : goal.invariant-loop-place
invariant-loop-place l = All (IsLastOut l.lasts) (take l.place l.rows)
