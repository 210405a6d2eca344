use Rattle.std.proofs.Common.{◌≡◌}
use Rattle.std.specs.Prelude.{take}
use Rattle.std.specs.List.{flat_map}
use Rattle.ca_fault_place.specs.Place.{arrow_text}
use Rattle.ca_fault_place.proofs.instances.arrows.Given as goal

abbrev pub invariant-loop-k : goal.invariant-loop-k
invariant-loop-k l = l.text ≡ flat_map (arrow_text l.instances) (take l.k l.members)
