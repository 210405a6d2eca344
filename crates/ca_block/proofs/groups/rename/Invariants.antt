use Rattle.std.proofs.Common.{◌≡◌, ◌≤◌, ℕ, get_or}
use Rattle.ca_block.specs.code.Labels.{AreRenamed}
use Rattle.ca_block.proofs.groups.rename.Given as goal

abbrev pub invariant-loop-node : goal.invariant-loop-node
invariant-loop-node l = record {
  renamed : AreRenamed l.node l.fn.from l.fn.to l.fn.labels l.labels;
  later : (m : ℕ) → l.node ≤ m → get_or l.labels m 0 ≡ get_or l.fn.labels m 0;
}
