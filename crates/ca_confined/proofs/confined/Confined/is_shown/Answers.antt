use Rattle.std.proofs.Common.{◌≡◌, ◌↔◌, ◌∙◌, None, Some, ap, sym, subst, arith}
use Rattle.std.specs.Prelude.{IsTrue}
use Rattle.ca_net.specs.Circuit.{IsWellFormed}
use Rattle.ca_flat.specs.Flat.{flat}
use Rattle.ca_flat.specs.Pair.{IsShown}
use Rattle.ca_view.specs.Linked.{IsAim, place_in}
use Rattle.ca_view.specs.Places.{cell_number}
use Rattle.ca_sim.specs.Seen.{Seen}
use Rattle.ca_confined.specs.code.Kept.{IsScopeOf, IsConfined}
use Rattle.ca_confined.proofs.ConfinedLemmas.{shows_exactly}
use Rattle.ca_confined.proofs.confined.Confined.is_shown.Goals as goal

pub is_some_opposite-requires-clause-few : goal.is_some_opposite-requires-clause-few
is_some_opposite-requires-clause-few c =
    let few = c.self.invariant.pinned.few_nets in
    let count = c.self.invariant.good_is.underway.ready.count in
    omega arith

pub is_some_opposite-requires-clause-good : goal.is_some_opposite-requires-clause-good
is_some_opposite-requires-clause-good c = λ net has.
    let within = c.self.invariant.linked.is_chip.observed net (c.self.invariant.room.outputs_within net has) in
    let count = c.self.invariant.good_is.underway.ready.count in
    omega arith

pub is_some_opposite-requires-clause-faulty : goal.is_some_opposite-requires-clause-faulty
is_some_opposite-requires-clause-faulty c = λ net has.
    let within = c.self.invariant.linked.is_chip.observed net (c.self.invariant.room.outputs_within net has) in
    let count = c.self.invariant.faulty_is.underway.ready.count in
    omega arith

pub returns : goal.returns
returns c = λ defect aimed.
    let inside = c.self.inside in
    let core = inside.chip.now.core in
    let kept = c.self.invariant in
    let here : inside.aim ≡ Some defect = ap (λ (s : Seen). s.aim) c.self.view_is ∙ aimed in
    let good = subst (λ (s : Seen). IsWellFormed (flat s.chip None)) (sym c.self.view_is) c.requires.good in
    let faulty = subst (λ (s : Seen). IsWellFormed (flat s.chip s.aim)) (sym c.self.view_is) c.requires.faulty in
    subst (λ (s : Seen). IsTrue c.is_some_opposite.result ↔ IsShown s.chip defect s.pair) c.self.view_is
    (shows_exactly core (place_in inside.chip.now.ranks) (cell_number inside.chip.now.chip) kept.linked inside.scope kept.room defect inside.bits inside.good inside.faulty
    good (subst (λ a. IsWellFormed (flat core a)) here faulty) (subst (IsAim core (place_in inside.chip.now.ranks)) here kept.aim_is)
    (subst (λ a. IsScopeOf core (place_in inside.chip.now.ranks) a inside.scope) here kept.scope_of) kept.good_is
    (subst (λ a. IsConfined core (place_in inside.chip.now.ranks) a inside.bits inside.scope.places inside.faulty) here kept.faulty_is)
    c.is_some_opposite.result c.is_some_opposite.ensures.some c.is_some_opposite.ensures.none)
