use Rattle.std.proofs.Common.{◌-◌, ◌<◌, arith, refl, subst, sym}
use Rattle.ca_net.specs.State.{value_at}
use Rattle.ca_flat.specs.Chip.{Chip, count_of}
use Rattle.ca_view.specs.Places.{cell_number}
use Rattle.ca_sweep.specs.Seen.{IsSeen, Loaded}
use Rattle.ca_sweep.specs.code.Asked.{IsAsked, AreNowhereAt}
use Rattle.ca_sweep.proofs.LoudLemmas.{no_flips, quiet_nowhere}
use Rattle.ca_sweep.proofs.finder.Finder.is_quiet.Goals as goal

pub returns-then-is_none-clause-quiet : goal.returns-then-is_none-clause-quiet
returns-then-is_none-clause-quiet g c = λ granted at below has.
    let inside = c.self.inside in
    let span = c.args.span in
    let seen = g.V.NetWaves.seen c.args.waves.now in
    let known : span.instance < count_of inside.chip.now.core = subst (λ (chip : Chip). span.instance < count_of chip) c.self.invariant.chip_is
    (subst (λ (s : Loaded). c.args.span.instance < count_of s.chip) (sym c.self.view_is) c.requires.placed.known) in
    subst (AreNowhereAt (g.V.NetWaves.seen c.args.waves.now).pair c.args.span.instance at) c.self.view_is
    (quiet_nowhere c.swept_are_flipped.ensures c.detected_is_filled_in.ensures c.detected_is_flipped.ensures inside.chip.now.core inside.chip.now.ranks
    (cell_number inside.chip.now.chip) inside.sweep inside.faulty inside.rows inside.waves.items inside.hand seen c.args.places.now span.instance span.start
    (span.end - span.start) c.window.result c.in-Some.loud c.both.result c.self.invariant c.linked.ensures.linked.is_chip known
    (subst (IsAsked (g.V.NetWaves.seen c.args.waves.now)) (sym c.self.view_is) c.requires.asked) (c.if-not-has.ensures.full refl)
    (c.if-not-has.ensures.instance refl) c.in-Some.ensures (let few = c.if-count-gt-LANES.false in omega arith) c.window.ensures c.both.ensures
    (c.is_none.ensures.0 c.if-is_none.true)
    (subst (IsSeen inside.sweep.chip (value_at inside.sweep.lasts) c.args.span.instance no_flips) (c.is_nowhere.ensures granted) c.see.ensures.seen) at below has)
