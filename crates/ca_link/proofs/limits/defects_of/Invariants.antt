use Rattle.std.proofs.Common.{◌≡◌, ◌≤◌, ◌^◌, ◌*◌}
use Rattle.std.specs.Prelude.{take}
use Rattle.std.specs.List.{sum_by}
use Rattle.ca_link.specs.code.Limits as limits
use Rattle.ca_link.proofs.limits.defects_of.Given as goal

abbrev pub invariant-loop-u : goal.invariant-loop-u
invariant-loop-u l =
    (l.defects ≡ sum_by (λ part. limits.body_defects l.draft.cells part.body) (take l.u l.draft.parts))
    × (l.defects ≤ l.u * 2 ^ 14)
