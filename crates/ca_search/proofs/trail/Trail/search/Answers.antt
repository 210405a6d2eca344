use Rattle.std.proofs.Common.{arith, sym, subst}
use Rattle.ca_search.specs.code.Steps.{TrailStands}
use Rattle.ca_search.specs.Judged.{IsShownFor}
use Rattle.ca_search.specs.code.Judged.{MayDecideHere}
use Rattle.ca_search.proofs.TrailLemmas.{front_of, spent_of, numbers_have_room}
use Rattle.ca_search.proofs.trail.Trail.search.Goals as goal

pub returns-in-Stop-clause-outcome : goal.returns-in-Stop-clause-outcome
returns-in-Stop-clause-outcome g c =
    let now = g.J.Judge.judged c.decide.new.judge in
    let stands = subst (λ j. TrailStands j c.deciding.self) (sym c.decide.ensures.same) c.deciding.invariant.stands in (
      front_of now c.deciding.self stands,
      subst (λ j. IsShownFor j.chip j.aim j.pair) (sym c.decide.ensures.same) c.in-Stop.ensures.lawful,
    )

pub leave-requires-clause-stands : goal.leave-requires-clause-stands
leave-requires-clause-stands g c =
    subst (λ j. TrailStands j c.deciding.self) (sym c.decide.ensures.same) c.deciding.invariant.stands

pub deciding-smaller-else-not-leave : goal.deciding-smaller-else-not-leave
deciding-smaller-else-not-leave g c =
    let room = numbers_have_room _ _ _ _ _ c.deciding.invariant.stands.stands in
    omega (arith, room, c.deciding.invariant.budget, c.leave.ensures.longer)

pub returns-then-self-clause-outcome : goal.returns-then-self-clause-outcome
returns-then-self-clause-outcome g c =
    let now = g.J.Judge.judged c.decide.new.judge in
    let stands = subst (λ j. TrailStands j c.deciding.self) (sym c.decide.ensures.same) c.deciding.invariant.stands in
    let may = subst (λ j. MayDecideHere j c.in-Branch.bit) (sym c.decide.ensures.same) c.in-Branch.ensures.lawful in
    spent_of now c.deciding.self c.in-Branch.bit stands may c.if-self.true

pub branch-self-requires-clause-stands : goal.branch-self-requires-clause-stands
branch-self-requires-clause-stands g c =
    subst (λ j. TrailStands j c.deciding.self) (sym c.decide.ensures.same) c.deciding.invariant.stands

pub deciding-smaller : goal.deciding-smaller
deciding-smaller g c =
    let room = numbers_have_room _ _ _ _ _ c.deciding.invariant.stands.stands in
    omega (arith, room, c.deciding.invariant.budget, c.branch-self.ensures.longer)
