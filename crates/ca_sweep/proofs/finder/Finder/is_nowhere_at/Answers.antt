use Rattle.std.proofs.Common.{refl, subst, sym}
use Rattle.ca_net.specs.State.{value_at}
use Rattle.ca_view.specs.Places.{cell_number}
use Rattle.ca_sweep.specs.Seen.{Loaded}
use Rattle.ca_sweep.specs.code.Asked.{IsAsked, AreNowhereAt}
use Rattle.ca_sweep.specs.code.Coded.{IsSeenCoded}
use Rattle.ca_sweep.proofs.TakenLemmas.{taken_nowhere}
use Rattle.ca_sweep.proofs.finder.Finder.is_nowhere_at.Goals as goal

pub returns-in-Some-clause-nowhere : goal.returns-in-Some-clause-nowhere
returns-in-Some-clause-nowhere g c = λ granted.
    let inside = c.self.inside in
    let seen = g.V.NetWaves.seen c.args.waves.now in
    subst (AreNowhereAt (g.V.NetWaves.seen c.args.waves.now).pair c.args.u c.args.at) c.self.view_is
    (taken_nowhere c.swept_are_flipped.ensures c.detected_is_filled_in.ensures c.detected_is_flipped.ensures inside.chip.now.core inside.chip.now.ranks
    (cell_number inside.chip.now.chip) inside.sweep inside.faulty inside.rows inside.waves.items inside.hand seen c.args.u c.args.at c.in-Some.code
    c.find_coded.result c.self.invariant c.linked.ensures.linked.is_chip
    (subst (IsAsked (g.V.NetWaves.seen c.args.waves.now)) (sym c.self.view_is) c.requires.asked) (c.if-not-has.ensures.full refl)
    (c.if-not-has.ensures.instance refl) c.in-Some.ensures
    (subst (λ (s : Loaded). IsSeenCoded s.chip (value_at s.lasts) c.args.u c.in-Some.code c.find_coded.result) (sym c.self.view_is) c.find_coded.ensures.found)
    (c.is_nowhere.ensures granted))
