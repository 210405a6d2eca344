use Rattle.std.specs.Prelude.{take}
use Rattle.std.specs.List.{All}
use Rattle.ca_every_vector.specs.code.Spread.{IsChangedInside}
use Rattle.ca_every_vector.proofs.spread.are_changed_inside.Given as goal

abbrev pub invariant-loop-place : goal.invariant-loop-place
invariant-loop-place l = All (IsChangedInside l.chip.core l.chip.lists l.values l.others) (take l.place l.changed)
