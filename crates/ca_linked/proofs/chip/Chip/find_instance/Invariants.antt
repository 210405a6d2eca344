use Rattle.std.proofs.Common.{ℕ, ◌≡◌, ◌<◌}
use Rattle.std.specs.Prelude.{Some, slice_get}
use Rattle.ca_linked.specs.Instances.{IsNamedGate}
use Rattle.ca_linked.proofs.chip.Chip.find_instance.Given as goal

abbrev pub invariant-loop-k : goal.invariant-loop-k
invariant-loop-k l = (j u : ℕ) → j < l.k → slice_get l.self.order j ≡ Some u → IsNamedGate l.self l.name u → ⊥
