use Rattle.std.proofs.Common.{◌≡◌, ◌<◌, ℕ}
use Rattle.ca_net.specs.State.{value_at}
use Rattle.ca_replay.proofs.values.is_same.Given as goal

abbrev pub invariant-loop-n : goal.invariant-loop-n
invariant-loop-n l = (m : ℕ) → m < l.n → value_at l.state m ≡ value_at l.other m
