use Rattle.std.proofs.Common.{◌≤◌, arith, refl, subst, sym, ◌∙◌}
use Rattle.ca_sweep.specs.Seen.{IsLanedFor, Loaded}
use Rattle.ca_sweep.specs.code.LanedFinder.{IsAtLane}
use Rattle.ca_sweep.specs.Found.{IsUndetectedAt}
use Rattle.ca_sweep.specs.code.Asked.{AreAsked}
use Rattle.ca_sweep.proofs.NextLemmas.{passed_to, passed_before, passed_all}
use Rattle.ca_sweep.proofs.finder.Finder.next_in.Goals as goal

pub places-init : goal.places-init
places-init g c = record { kept = refl; onward = omega arith; none = λ place after below has. absurd (omega arith) }

pub pass-end-requires-clause-asked : goal.pass-end-requires-clause-asked
pass-end-requires-clause-asked g c =
    subst (λ (s : Loaded). AreAsked (g.V.NetWaves.seen c.args.waves.now) c.args.defects.now s) (sym c.places.invariant.kept) c.requires.asked

pub pass-end-requires-clause-lanes : goal.pass-end-requires-clause-lanes
pass-end-requires-clause-lanes g c =
    subst (λ (s : Loaded). IsLanedFor s.chip s.places (g.L.Lanes.laned c.args.lanes.now)) (sym c.places.invariant.kept) c.requires.lanes

pub pass-end-requires-clause-lane : goal.pass-end-requires-clause-lane
pass-end-requires-clause-lane g c = λ within.
    subst (λ (s : Loaded). IsAtLane (g.L.Lanes.laned c.args.lanes.now) c.args.lane s.lasts) (sym c.places.invariant.kept)
    (c.requires.lane within)

pub returns-then-end-place-clause-next : goal.returns-then-end-place-clause-next
returns-then-end-place-clause-next g c =
    let next = c.in-Some.ensures in
    let after : c.args.from ≤ c.in-Some.place = let one = c.places.invariant.onward in let two = next.0 in omega arith in (
      after,
      next.1,
      passed_before c.args.self.now.chip c.args.defects.now.list (g.V.NetWaves.seen c.args.waves.now).pair c.args.places.now c.args.from c.places.at c.in-Some.place
          c.places.invariant.none next,
    )

pub returns-then-end-place-clause-kept : goal.returns-then-end-place-clause-kept
returns-then-end-place-clause-kept g c = c.pass-end.ensures.kept ∙ c.places.invariant.kept

pub places-smaller : goal.places-smaller
places-smaller g c = let within = c.requires.within c.in-Some.place c.in-Some.ensures.1 in let after = c.in-Some.ensures.0 in let onward = c.pass-end.ensures.onward in
    let apart = c.if-end-place.false in omega arith

pub places-preserved : goal.places-preserved
places-preserved g c =
    let chip = c.args.self.now.chip in
    let pair = (g.V.NetWaves.seen c.args.waves.now).pair in
    let next = c.in-Some.ensures in
    record {
      kept = c.pass-end.ensures.kept ∙ c.places.invariant.kept;
      onward = let one = c.places.invariant.onward in let two = next.0 in let three = c.pass-end.ensures.onward in omega arith;
      none = passed_to chip c.args.defects.now.list pair c.args.places.now c.args.from c.places.at c.in-Some.place c.pass-end.result
          c.places.invariant.none next (λ k after before has.
          subst (λ (s : Loaded). IsUndetectedAt s.chip c.args.defects.now.list pair k) c.places.invariant.kept (c.pass-end.ensures.passed k after before has));
    }

pub returns-clause-next : goal.returns-clause-next
returns-clause-next g c =
    passed_all c.args.self.now.chip c.args.defects.now.list (g.V.NetWaves.seen c.args.waves.now).pair c.args.places.now c.args.from c.places.at
    c.places.invariant.none c.in_default.ensures

pub returns-clause-kept : goal.returns-clause-kept
returns-clause-kept g c = c.places.invariant.kept
