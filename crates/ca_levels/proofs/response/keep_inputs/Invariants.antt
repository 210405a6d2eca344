use Rattle.std.proofs.Common.{◌≡◌, ◌≤◌, ℕ, get_or}
use Rattle.ca_levels.specs.code.Reached.{AreKept}
use Rattle.ca_levels.proofs.response.keep_inputs.Given as goal

abbrev pub invariant-loop-node : goal.invariant-loop-node
invariant-loop-node l = record {
  kept : AreKept l.node l.own l.from l.fn.out l.out;
  later : (n : ℕ) → l.node ≤ n → get_or l.out n 0 ≡ get_or l.fn.out n 0;
}
