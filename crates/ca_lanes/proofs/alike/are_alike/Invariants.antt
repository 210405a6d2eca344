use Rattle.std.proofs.Common.{◌≡◌, ◌+◌, ◌<◌, ℕ}
use Rattle.ca_lanes.specs.GoodRows.{good_at}
use Rattle.ca_lanes.proofs.alike.are_alike.Given as goal

abbrev pub invariant-loop-last : goal.invariant-loop-last
invariant-loop-last l = (last output : ℕ) → last < l.last → output < l.fn.outputs
    → good_at l.values l.fn.count l.fn.outputs l.fn.first last output ≡ good_at l.values l.fn.count l.fn.outputs (l.fn.first + 1) last output
