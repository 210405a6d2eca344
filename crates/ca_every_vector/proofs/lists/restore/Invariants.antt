use Rattle.std.proofs.Common.{◌≡◌, length}
use Rattle.ca_every_vector.proofs.ListLemmas.{AreSameTo}
use Rattle.ca_every_vector.proofs.lists.restore.Given as goal

abbrev pub invariant-loop-place : goal.invariant-loop-place
invariant-loop-place l = record {
  room : length l.values ≡ length l.from;
  same : AreSameTo l.values l.from l.nets l.place;
}
