use Rattle.std.proofs.Common.{List, ℕ, sym, ◌∙◌, subst}
use Rattle.std.specs.Prelude.{IfOk}
use Rattle.ca_flat.specs.Chip as flat
use Rattle.ca_view.specs.Core.{core_of}
use Rattle.ca_view.specs.Linked.{IsAim, place_in}
use Rattle.ca_simulate.specs.Simulated.{pair_of}
use Rattle.ca_simulate.specs.code.Lasts.{AreLasts}
use Rattle.ca_simulate.proofs.EndLemmas.{aimed_at, simulated_ends}
use Rattle.ca_simulate.proofs.simulation.simulate_on.Goals as goal

pub aim-requires : goal.aim-requires
aim-requires c =
    let view = c.args.view.now in
    let seen = c.in_ok-sim.sim.seen in
    let fresh = c.in_ok-sim.ensures {u = tt} in
    subst (λ (core : flat.Chip). IsAim core (place_in seen.places) c.args.defect) (sym (fresh.chip_is ∙ c.requires.chip.core_is))
    (subst (λ (places : List ℕ). IsAim (core_of view.chip) (place_in places) c.args.defect) (sym fresh.places_are)
    (aimed_at view.chip c.requires.chip.wired view.ranks c.requires.chip.ranked c.args.defect c.requires.defect))

pub returns : goal.returns
returns c =
    let view = c.args.view.now in
    let fresh = c.in_ok-sim.ensures {u = tt} in
    simulated_ends view.chip c.requires.chip.wired c.requires.chip.few c.args.defect c.requires.defect c.load.new.self.seen
    (pair_of c.args.vectors.first.now c.args.vectors.last.now) c.last_values-ends.result
    (c.load.ensures.kept.chip.chip ∙ c.aim.ensures.kept.chip.chip ∙ fresh.chip_is ∙ c.requires.chip.core_is)
    c.load.ensures.pair (c.load.ensures.kept.aim ∙ c.aim.ensures.aim) c.exact.ensures
    (subst (λ (core : flat.Chip). IfOk c.last_values-ends.result (AreLasts core.outputs c.load.new.self.seen)) c.requires.chip.core_is c.last_values-ends.ensures)
