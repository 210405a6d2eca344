use Rattle.std.specs.Prelude.{take}
use Rattle.std.specs.List.{All}
use Rattle.ca_every_vector.specs.code.Region.{IsGivenOrUnknown}
use Rattle.ca_every_vector.proofs.region.are_given.Given as goal

abbrev pub invariant-loop-place : goal.invariant-loop-place
invariant-loop-place l = All (IsGivenOrUnknown l.chip.core l.values) (take l.place l.parts)
