use Rattle.std.proofs.Common.{◌≡◌, length}
use Rattle.std.specs.List.{All}
use Rattle.ca_every_vector.specs.code.Masks.{AreMore}
use Rattle.ca_every_vector.specs.code.Region.{AreKnownWithin, IsTriedTo}
use Rattle.ca_every_vector.proofs.tried.try_all.Given as goal

abbrev pub invariant-loop-number : goal.invariant-loop-number
invariant-loop-number l = record {
  tried : All (IsTriedTo l.chip.core l.region.inputs.items l.number l.masks) l.region.fresh.items;
  more : AreMore l.fn.masks l.masks;
  nets : length l.values ≡ length l.chip.core.nets;
  within : AreKnownWithin l.chip.core l.region.inputs.items l.region.parts.items l.values;
  rest : l.others ≡ l.values;
}
