use Rattle.std.proofs.Common.{◌≡◌, ◌≤◌, ℕ, length, false}
use Rattle.ca_lanes.specs.Plane.{lane_of}
use Rattle.ca_lanes.specs.Choice.{choice_of}
use Rattle.ca_lanes.specs.code.Choice.{either_choice, choice_over}
use Rattle.ca_lanes.specs.GoodRows.{good_at}
use Rattle.ca_lanes.specs.code.Allowed.{lanes_of}
use Rattle.ca_lanes.specs.code.Given.{given_by, given_by_rows}
use Rattle.ca_lanes.proofs.evaluate.last_values.Given as goal

abbrev pub invariant-loop-first : goal.invariant-loop-first
invariant-loop-first l = record {
  found : (lane : ℕ) → either_choice (choice_of l.found lane) (choice_over (lane_of l.together lane)
      (given_by (lanes_of l.lasts lane) (λ last. good_at l.values (length l.lasts) l.fn.outputs l.first last l.fn.output) (length l.lasts)))
      ≡ given_by_rows (lanes_of l.firsts lane) (lanes_of l.lasts lane)
      (λ first last. good_at l.values (length l.lasts) l.fn.outputs first last l.fn.output) (length l.lasts) l.first;
  none : length l.lasts ≤ l.first → (lane : ℕ) → lane_of l.together lane ≡ false;
}
