use Rattle.std.proofs.Common.{Some, sym, subst}
use Rattle.ca_view.specs.Linked.{IsPlacedDefect, place_in}
use Rattle.ca_sim.specs.Seen.{IsExact, aimed_anew}
use Rattle.ca_sim.specs.Simulator.{Simulator}
use Rattle.ca_view.specs.Places.{cell_number}
use Rattle.ca_sim.proofs.Keeping.{kept_is_exact}
use Rattle.ca_sim.proofs.sim.Sim.is_alike.Goals as goal

pub returns-in-Some-clause-alike : goal.returns-in-Some-clause-alike
returns-in-Some-clause-alike c alike =
    let inside = c.self.inside in
    let core = inside.chip.now.core in
    let places = inside.chip.now.ranks in
    let kept = c.self.invariant in
    let aim_is : IsPlacedDefect core (place_in places) c.args.defect =
    subst (λ (sim : Simulator). IsPlacedDefect sim.seen.chip (place_in sim.seen.places) c.args.defect) (sym c.self.view_is)
    c.requires in
    subst (λ (sim : Simulator). IsExact (aimed_anew sim.seen c.args.defect)) c.self.view_is
    (kept_is_exact core places (place_in places) (cell_number inside.chip.now.chip) (Some c.args.defect) inside.networks
    inside.unset inside.loaded inside.cells (record {
      linked = kept.linked;
      aim_is = aim_is;
      rest = c.is_alike.ensures.rest alike;
      no_bit = kept.no_bit;
      unset_are = kept.unset_are;
      loaded_are = kept.loaded_are;
      rooms = kept.rooms;
    }))
