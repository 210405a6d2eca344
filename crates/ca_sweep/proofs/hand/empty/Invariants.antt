use Rattle.std.proofs.Common.{ℕ, ◌≡◌, ◌<◌, length, get_or, None}
use Rattle.ca_sweep.proofs.hand.empty.Given as goal

abbrev pub invariant-loop-code : goal.invariant-loop-code
invariant-loop-code l = record {
  count : length l.answers.items ≡ length l.fn.answers.items;
  none : (code : ℕ) → code < l.code → get_or l.answers.items code None ≡ None;
}
