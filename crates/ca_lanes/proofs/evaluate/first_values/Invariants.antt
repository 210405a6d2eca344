use Rattle.std.proofs.Common.{◌≡◌, ℕ, length}
use Rattle.ca_lanes.specs.Choice.{choice_of}
use Rattle.ca_lanes.specs.GoodRows.{good_at}
use Rattle.ca_lanes.specs.code.Allowed.{lanes_of}
use Rattle.ca_lanes.specs.code.Given.{given_by}
use Rattle.ca_lanes.proofs.evaluate.first_values.Given as goal

abbrev pub invariant-loop-vector : goal.invariant-loop-vector
invariant-loop-vector l = (lane : ℕ) → choice_of l.found lane
    ≡ given_by (lanes_of l.firsts lane) (λ vector. good_at l.values (length l.firsts) l.fn.outputs vector vector l.fn.output) l.vector
