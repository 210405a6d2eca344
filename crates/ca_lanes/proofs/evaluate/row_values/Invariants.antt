use Rattle.std.proofs.Common.{◌≡◌, ℕ, length}
use Rattle.ca_lanes.specs.Choice.{choice_of}
use Rattle.ca_lanes.specs.GoodRows.{good_at}
use Rattle.ca_lanes.specs.code.Allowed.{lanes_of}
use Rattle.ca_lanes.specs.code.Given.{given_by}
use Rattle.ca_lanes.proofs.evaluate.row_values.Given as goal

abbrev pub invariant-loop-last : goal.invariant-loop-last
invariant-loop-last l = (lane : ℕ) → choice_of l.found lane
    ≡ given_by (lanes_of l.lasts lane) (λ last. good_at l.values (length l.lasts) l.fn.outputs l.fn.first last l.fn.output) l.last
