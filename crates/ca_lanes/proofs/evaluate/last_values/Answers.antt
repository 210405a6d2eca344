use Rattle.std.proofs.Common.{◌≡◌, ◌∙◌, ◌+◌, ◌<◌, ℕ, ap₂, length, subst, sym, ap, arith}
use Rattle.ca_net.specs.declared.trit.Trit.{Trit}
use Rattle.ca_lanes.specs.Plane.{lane_of}
use Rattle.ca_lanes.specs.Choice.{choice_of, no_choice}
use Rattle.ca_lanes.specs.code.Choice.{choice_over, either_choice}
use Rattle.ca_lanes.specs.GoodRows.{good_at}
use Rattle.ca_lanes.specs.code.Allowed.{lanes_of}
use Rattle.ca_lanes.specs.code.Given.{given_by}
use Rattle.ca_lanes.proofs.RowLemmas.{given_by_no_rows, more_rows, none_carried, given_by_same}
use Rattle.ca_lanes.proofs.evaluate.last_values.Goals as goal
use Rattle.ca_lanes.proofs.evaluate.last_values.Goals.{then-first-count}
use Rattle.ca_lanes.proofs.evaluate.last_values.Goals.{else-first-count+else-not-like_next-first}

pub loop-first-init : goal.loop-first-init
loop-first-init c = record {
  found = λ lane. none_carried no_choice _ no_choice _ _ _ (c.none-together.ensures lane) (c.none-found.ensures lane) (given_by_no_rows _ _ _ _);
  none = λ no. c.none-together.ensures;
}

pub loop-first-preserved : goal.loop-first-preserved
loop-first-preserved c =
    let value : ℕ → ℕ → Trit = λ first last. good_at c.args.values.now (length c.args.lasts.now) c.args.outputs first last c.args.output in
    let count = length c.args.lasts.now in
    let first = c.loop-first.first in
    let within : first < length c.args.firsts.now = subst (λ n. first < n) (sym c.requires.counts) c.loop-first-test.true in
    let more = λ (lane : ℕ). more_rows c.args.firsts.now lane first c.index-firsts-first.result (lanes_of c.args.lasts.now lane) value count
    (choice_of c.loop-first.found lane) (lane_of c.loop-first.together lane) (lane_of c.either-together.result lane)
    within c.index-firsts-first.is (c.either-together.ensures lane) (c.loop-first.invariant.found lane) in
    elim c.if-first-count.branch [
      | then-first-count w ↦ record {
        found = λ lane. none_carried (choice_of c.loop-first.found lane) (choice_of c.if-first-count.found lane)
            (choice_over (lane_of c.either-together.result lane) (given_by (lanes_of c.args.lasts.now lane) (value first) count)) _ _ _
            (ap (λ plane. lane_of plane lane) w.together-is ∙ w.none-together-then-first-count.ensures lane)
            (ap (λ values. choice_of values lane) w.found-is ∙ w.either-found.ensures lane
            ∙ ap (either_choice (choice_of c.loop-first.found lane)) (w.over.ensures lane ∙ ap (choice_over (lane_of c.either-together.result lane)) (w.row_values.ensures lane)))
            (more lane);
        none = λ no lane. ap (λ plane. lane_of plane lane) w.together-is ∙ w.none-together-then-first-count.ensures lane;
      }
      | else-first-count+else-not-like_next-first w ↦
          let next : first + 1 < count = omega (arith, c.loop-first-test.true, w.if-first-count.false) in
          record {
            found = λ lane.
                let same : given_by (lanes_of c.args.lasts.now lane) (value (first + 1)) count ≡ given_by (lanes_of c.args.lasts.now lane) (value first) count =
                given_by_same (lanes_of c.args.lasts.now lane) (value (first + 1)) (value first) count
                (λ last known. sym (c.requires.like first last c.args.output next known c.requires.output w.if-not-like_next-first.false)) in
                ap₂ (λ found plane. either_choice (choice_of found lane) (choice_over (lane_of plane lane) (given_by (lanes_of c.args.lasts.now lane) (value (first + 1)) count))) w.found-is w.together-is
                ∙ ap (λ row. either_choice (choice_of c.loop-first.found lane) (choice_over (lane_of c.either-together.result lane) row)) same
                ∙ more lane;
            none = λ no lane. let none : ⊥ = omega (arith, no, next) in absurd none;
          }
    ]
