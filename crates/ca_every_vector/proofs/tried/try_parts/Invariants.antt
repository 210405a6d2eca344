use Rattle.std.proofs.Common.{◌≡◌, take}
use Rattle.std.specs.List.{All}
use Rattle.ca_net.specs.State.{value_at}
use Rattle.ca_every_vector.specs.code.Masks.{AreMore, mask_at}
use Rattle.ca_every_vector.specs.code.Region.{HasLastsAt}
use Rattle.ca_every_vector.proofs.tried.try_parts.Given as goal

abbrev pub invariant-loop-place : goal.invariant-loop-place
invariant-loop-place l = record {
  lasts : All (λ u. HasLastsAt l.chip.core (value_at l.values) u (mask_at l.masks u)) (take l.place l.parts);
  more : AreMore l.fn.masks l.masks;
  rest : l.others ≡ l.values;
}
