use Rattle.std.proofs.Common.{◌≡◌, ◌+◌, ◌<◌, ℕ}
use Rattle.ca_lanes.specs.GoodRows.{good_at}
use Rattle.ca_lanes.proofs.alike.is_row_alike.Given as goal

abbrev pub invariant-loop-output : goal.invariant-loop-output
invariant-loop-output l = (output : ℕ) → output < l.output
    → good_at l.values l.fn.count l.fn.outputs l.fn.first l.fn.last output ≡ good_at l.values l.fn.count l.fn.outputs (l.fn.first + 1) l.fn.last output
