use Rattle.std.proofs.Common.{take}
use Rattle.std.specs.List.{All}
use Rattle.ca_every_vector.specs.code.Masks.{AreMore, mask_at}
use Rattle.ca_every_vector.specs.code.Region.{IsFull}
use Rattle.ca_every_vector.proofs.tried.fill.Given as goal

abbrev pub invariant-loop-place : goal.invariant-loop-place
invariant-loop-place l = record {
  full : All (λ u. IsFull (mask_at l.masks u)) (take l.place l.parts);
  more : AreMore l.fn.masks l.masks;
}
