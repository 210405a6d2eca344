use Rattle.std.proofs.Common.{ℕ, ◌<◌, ◌≡◌, Some}
use Rattle.std.specs.Prelude.{slice_get}
use Rattle.ca_net.specs.State.{value_at}
use Rattle.ca_view.specs.Readers.{row_at}
use Rattle.ca_every_vector.specs.Inside.{IsEvaluatedInside}
use Rattle.ca_every_vector.proofs.spread.are_readers_inside.Given as goal

abbrev pub invariant-loop-k : goal.invariant-loop-k
invariant-loop-k l = (j w : ℕ) → j < l.k → slice_get (row_at l.chip.readers l.net) j ≡ Some w
    → IsEvaluatedInside l.chip.core w (value_at l.values) (value_at l.others)
