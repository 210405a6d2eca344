use Rattle.std.proofs.Common.{◌≡◌, ◌<◌, ℕ}
use Rattle.ca_linked.specs.code.Walk.{instance_at}
use Rattle.ca_linked.proofs.order.Walk.place_of.Given as goal

abbrev pub invariant-loop-place : goal.invariant-loop-place
invariant-loop-place l = (k : ℕ) → k < l.place → instance_at l.self.trail k ≡ l.u → ⊥
