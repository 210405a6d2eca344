use Rattle.std.proofs.Common.{◌+◌, ◌-◌, arith, refl, subst, sym, ◌∙◌}
use Rattle.ca_view.specs.Linked.{IsPlaced, place_in}
use Rattle.ca_sweep.specs.Seen.{Loaded}
use Rattle.ca_sweep.specs.Found.{IsUndetectedAt}
use Rattle.ca_sweep.specs.code.Asked.{IsAsked, AreNowhereAt}
use Rattle.ca_sweep.proofs.NextLemmas.{span_placed, passed_to, passed_before, passed_all}
use Rattle.ca_sweep.proofs.TakenLemmas.{taken_undetected}
use Rattle.ca_sweep.proofs.finder.Finder.pass_taken.Goals as goal

pub places-init : goal.places-init
places-init g c = record { kept = refl; onward = omega arith; none = λ place after below has. absurd (omega arith) }

pub is_nowhere_at-requires-clause-asked : goal.is_nowhere_at-requires-clause-asked
is_nowhere_at-requires-clause-asked g c =
    subst (λ (s : Loaded). IsAsked (g.V.NetWaves.seen c.args.waves.now) s) (sym c.places.invariant.kept) c.requires.asked.pair

pub is_nowhere_at-requires-clause-placed : goal.is_nowhere_at-requires-clause-placed
is_nowhere_at-requires-clause-placed g c =
    let s = c.args.self.now in
    let span = c.args.span in
    subst (λ (s : Loaded). IsPlaced s.chip (place_in s.places) c.args.span.instance) (sym c.places.invariant.kept)
    (span_placed s.chip (place_in s.places) c.args.defects.now.list c.args.place span.start span.end span.instance
    (let within = c.requires.within in let past = c.requires.past in omega arith) c.requires.place c.requires.past c.requires.span c.requires.asked.placed)

pub places-preserved : goal.places-preserved
places-preserved g c =
    let s = c.args.self.now in
    let list = c.args.defects.now.list in
    let pair = (g.V.NetWaves.seen c.args.waves.now).pair in
    let span = c.args.span in
    let next = c.in-Some.next in
    let found = c.in-Some.ensures in
    record {
      kept = c.is_nowhere_at.ensures.kept ∙ c.places.invariant.kept;
      onward = let one = c.places.invariant.onward in let two = found.0 in omega arith;
      none = passed_to s.chip list pair c.args.places.now c.args.place c.places.at next (c.in-Some.next + 1) c.places.invariant.none found
          (λ k after before has. subst (IsUndetectedAt c.args.self.now.chip c.args.defects.now.list (g.V.NetWaves.seen c.args.waves.now).pair) (omega arith)
          (taken_undetected s list pair span.start span.end span.instance next
          (let one = c.places.invariant.onward in let two = found.0 in let three = c.requires.place in omega arith) c.if-next-span.false c.requires.span
          c.requires.whole c.requires.asked.placed c.requires.asked.faulty_are
          (subst (AreNowhereAt (g.V.NetWaves.seen c.args.waves.now).pair c.args.span.instance (c.in-Some.next - c.args.span.start)) c.places.invariant.kept
          (c.if-not-is_nowhere_at.ensures.nowhere refl))));
    }

pub returns-then-next-span-clause-passed : goal.returns-then-next-span-clause-passed
returns-then-next-span-clause-passed g c = λ k after before has.
    passed_before c.args.self.now.chip c.args.defects.now.list (g.V.NetWaves.seen c.args.waves.now).pair c.args.places.now c.args.place c.places.at
    c.in-Some.next c.places.invariant.none c.in-Some.ensures k after (let past = c.if-next-span.true in omega arith) has

pub returns-then-not-is_nowhere_at-clause-passed : goal.returns-then-not-is_nowhere_at-clause-passed
returns-then-not-is_nowhere_at-clause-passed g c = λ k after before has.
    passed_before c.args.self.now.chip c.args.defects.now.list (g.V.NetWaves.seen c.args.waves.now).pair c.args.places.now c.args.place c.places.at
    c.in-Some.next c.places.invariant.none c.in-Some.ensures k after before has

pub returns-clause-passed : goal.returns-clause-passed
returns-clause-passed g c = λ k after before has.
    passed_all c.args.self.now.chip c.args.defects.now.list (g.V.NetWaves.seen c.args.waves.now).pair c.args.places.now c.args.place c.places.at
    c.places.invariant.none c.in_default.ensures k after has
