use Rattle.std.proofs.Common.{◌≡◌, take}
use Rattle.std.specs.Prelude.{slice_get}
use Rattle.std.specs.List.{sum_by}
use Rattle.ca_linked.specs.Instances.{gates_of}
use Rattle.ca_on_chip.specs.Lines.{part_defects}
use Rattle.ca_on_chip.proofs.lines.count_defects.Given as goal

abbrev pub invariant-loop-k : goal.invariant-loop-k
invariant-loop-k l =
    l.count ≡ sum_by (λ u. part_defects l.chip.cells (slice_get l.chip.parts u)) (take l.k (gates_of l.chip))
