use Rattle.std.proofs.Common.{◌≢◌, ℕ, ◌<◌}
use Rattle.ca_cell.specs.Raw.{node_of}
use Rattle.ca_cell.proofs.cell.Cell.node_name.Given as goal

abbrev pub invariant-loop-place : goal.invariant-loop-place
invariant-loop-place l = (k : ℕ) → k < l.place → node_of l.self.pins k ≢ l.n.0
