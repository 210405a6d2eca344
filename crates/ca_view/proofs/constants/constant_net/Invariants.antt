use Rattle.std.specs.Prelude.{ℕ, ◌≡◌, ◌<◌, Some}
use Rattle.ca_linked.specs.Linked.{constant_net}
use Rattle.ca_view.proofs.constants.constant_net.Given as goal

abbrev pub invariant-loop-net : goal.invariant-loop-net
invariant-loop-net l = (m : ℕ) → m < l.net → constant_net l.chip l.value ≡ Some m → ⊥
