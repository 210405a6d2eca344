use Rattle.std.proofs.Common.{ℕ}
use Rattle.std.specs.Prelude.{◌↔◌}
use Rattle.std.specs.List.{Contains}
use Rattle.ca_linked.specs.code.Feeding.{FeedsPin}
use Rattle.ca_linked.proofs.feeding.row.Given as goal

abbrev pub invariant-loop-pin : goal.invariant-loop-pin
invariant-loop-pin l = (w : ℕ) → Contains l.row w ↔ FeedsPin l.draft l.body l.pin w
