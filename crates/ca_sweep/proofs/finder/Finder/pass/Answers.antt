use Rattle.std.proofs.Common.{◌≡◌, ℕ, ◌+◌, ◌-◌, List, Some, ap, ◌∙◌, arith, refl, subst, sym}
use Rattle.ca_net.specs.Circuit.{IsWellFormed}
use Rattle.ca_net.specs.State.{value_at}
use Rattle.ca_flat.specs.declared.chip_defect.ChipDefect.{ChipDefect}
use Rattle.ca_flat.specs.Chip.{IsChip, cell_at}
use Rattle.ca_flat.specs.Flat.{flat}
use Rattle.ca_flips.specs.Flips.{AreLastsOf}
use Rattle.ca_view.specs.Linked.{IsPlaced, IsPlacedDefect, place_in}
use Rattle.ca_sweep.specs.Seen.{AreUnseen, Loaded}
use Rattle.ca_sweep.specs.Spans.{AreOfCell}
use Rattle.ca_sweep.specs.Found.{IsFound, IsUndetectedAt}
use Rattle.ca_places.specs.PlaceSet.{Has}
use Rattle.ca_sweep.specs.code.Asked.{AreAsked, AreNowhereAt}
use Rattle.ca_sweep.proofs.NextLemmas.{entry_has, span_placed, undetected_one}
use Rattle.ca_sweep.proofs.TakenLemmas.{taken_undetected}
use Rattle.ca_sweep.proofs.UndetectedLemmas.{unseen_undetected}
use Rattle.ca_sweep.proofs.finder.Finder.pass.Goals as goal

pub is_unseen-requires : goal.is_unseen-requires
is_unseen-requires g c =
    let laned = g.L.Lanes.laned c.args.lanes.now in
    let chip = c.args.self.now.chip in
    let place_of = place_in c.args.self.now.places in
    let span = c.span_at-span.ensures in
    let placed : IsPlaced chip place_of c.span_at-span.result.instance =
    span_placed chip place_of c.args.defects.now.list c.args.place c.span_at-span.result.start c.span_at-span.result.end c.span_at-span.result.instance
    c.requires.place span.within span.past span.span c.requires.asked.placed in
    subst (λ (places : List ℕ). IsPlaced laned.chip (place_in places) c.span_at-span.result.instance) (sym c.requires.lanes.places_are)
    (subst (λ chip. IsPlaced chip place_of c.span_at-span.result.instance) (sym c.requires.lanes.chip_is) placed)

pub takes-requires : goal.takes-requires
takes-requires g c =
    let span = c.span_at-span in
    subst (λ (s : Loaded). IsPlaced s.chip (place_in s.places) c.span_at-span.result.instance) (sym c.self.view_is)
    (span_placed c.args.self.now.chip (place_in c.args.self.now.places) c.args.defects.now.list c.args.place span.result.start span.result.end
    span.result.instance c.requires.place span.ensures.within span.ensures.past span.ensures.span c.requires.asked.placed)

pub is_quiet-requires-clause-placed : goal.is_quiet-requires-clause-placed
is_quiet-requires-clause-placed g c =
    let span = c.span_at-span in
    subst (λ (s : Loaded). IsPlaced s.chip (place_in s.places) c.span_at-span.result.instance) (sym (c.takes.ensures.kept ∙ c.self.view_is))
    (span_placed c.args.self.now.chip (place_in c.args.self.now.places) c.args.defects.now.list c.args.place span.result.start span.result.end
    span.result.instance c.requires.place span.ensures.within span.ensures.past span.ensures.span c.requires.asked.placed)

pub returns-then-is_quiet-clause-passed : goal.returns-then-is_quiet-clause-passed
returns-then-is_quiet-clause-passed g c = λ k after before has.
    let s = c.args.self.now in
    let list = c.args.defects.now.list in
    let pair = (g.V.NetWaves.seen c.args.waves.now).pair in
    let span = c.span_at-span.result in
    let there : k ≡ span.start + (k - span.start) = let start = c.span_at-span.ensures.within in omega arith in
    taken_undetected s list pair span.start span.end span.instance k (let start = c.span_at-span.ensures.within in omega arith) before c.span_at-span.ensures.span
    (subst (λ chip. AreOfCell (cell_at chip c.span_at-span.result.instance) c.args.defects.now.list c.span_at-span.result.start c.span_at-span.result.end)
    c.requires.asked.chip_is (c.span_at-span.ensures.whole (c.if-takes.ensures.whole refl))) c.requires.asked.placed c.requires.asked.faulty_are
    (subst (AreNowhereAt (g.V.NetWaves.seen c.args.waves.now).pair c.span_at-span.result.instance (k - c.span_at-span.result.start))
    (c.takes.ensures.kept ∙ c.self.view_is)
    (c.if-is_quiet.ensures.quiet refl (k - span.start) (let start = c.span_at-span.ensures.within in omega arith) (subst (Has c.args.places.now) there has)))

pub pass_taken-requires-clause-asked : goal.pass_taken-requires-clause-asked
pass_taken-requires-clause-asked g c =
    subst (AreAsked (g.V.NetWaves.seen c.args.waves.now) c.args.defects.now)
    (sym (c.is_quiet.ensures.kept ∙ c.takes.ensures.kept ∙ c.self.view_is)) c.requires.asked

pub pass_taken-requires-clause-whole : goal.pass_taken-requires-clause-whole
pass_taken-requires-clause-whole g c =
    subst (λ chip. AreOfCell (cell_at chip c.span_at-span.result.instance) c.args.defects.now.list c.span_at-span.result.start c.span_at-span.result.end)
    (c.requires.asked.chip_is ∙ ap (λ (s : Loaded). s.chip) (sym (c.is_quiet.ensures.kept ∙ c.takes.ensures.kept ∙ c.self.view_is)))
    (c.span_at-span.ensures.whole (c.if-takes.ensures.whole refl))

pub returns-then-takes-clause-passed : goal.returns-then-takes-clause-passed
returns-then-takes-clause-passed g c = λ k after before has.
    subst (λ (s : Loaded). IsUndetectedAt s.chip c.args.defects.now.list (g.V.NetWaves.seen c.args.waves.now).pair k)
    (c.is_quiet.ensures.kept ∙ c.takes.ensures.kept ∙ c.self.view_is)
    (c.pass_taken.ensures.passed k after before has)

pub returns-then-is_unseen-clause-passed : goal.returns-then-is_unseen-clause-passed
returns-then-is_unseen-clause-passed g c = λ k after before has defect at.
    let chip = c.args.self.now.chip in
    let rank = place_in c.self.inside.chip.now.ranks in
    let own : chip ≡ c.self.inside.chip.now.core = ap (λ (s : Loaded). s.chip) (sym c.self.view_is) ∙ c.self.invariant.chip_is in
    let lasts = c.args.self.now.lasts in
    let unseen = c.if-is_unseen.ensures.unseen lasts (c.requires.lane (c.if-is_unseen.ensures.within refl)) refl in
    let here = c.span_at-span.ensures.span.each k defect (let start = c.span_at-span.ensures.within in omega arith) before at in
    let placed = entry_has (IsPlacedDefect chip (place_in c.args.self.now.places)) c.args.defects.now.list k defect at c.requires.asked.placed in
    unseen_undetected chip rank defect (g.V.NetWaves.seen c.args.waves.now).pair (value_at lasts)
    (record {
      chip_is = subst (λ chip. IsChip chip (place_in c.self.inside.chip.now.ranks)) (sym own) c.linked.ensures.linked.is_chip;
      defect_is = placed.defect_is;
      good_is = c.requires.asked.pair.good_is;
      faulty_is = entry_has (λ (d : ChipDefect). IsWellFormed (flat chip (Some d))) c.args.defects.now.list k defect at c.requires.asked.faulty_are;
    }) c.requires.asked.pair.lasts_are
    (subst (AreUnseen chip (value_at lasts)) (sym here)
    (subst (λ chip. AreUnseen chip (value_at lasts) c.span_at-span.result.instance) c.requires.lanes.chip_is unseen))

pub returns-then-is_nowhere-clause-passed : goal.returns-then-is_nowhere-clause-passed
returns-then-is_nowhere-clause-passed g c =
    let chip = c.args.self.now.chip in
    let pair = (g.V.NetWaves.seen c.args.waves.now).pair in
    let same = ap (λ (s : Loaded). s.chip) (c.takes.ensures.kept ∙ c.self.view_is) in
    let found = subst (λ chip. IsFound chip c.get.result pair c.find.result) same c.find.ensures.found in
    λ k after before has. undetected_one chip c.args.defects.now.list pair c.args.place c.get.result c.get.ensures
    (subst (IsFound chip c.get.result pair) (c.if-is_nowhere.ensures refl) found) k after before

pub find-requires-clause-lasts : goal.find-requires-clause-lasts
find-requires-clause-lasts g c =
    subst (λ (s : Loaded). AreLastsOf s.chip (g.V.NetWaves.seen c.args.waves.now).pair (value_at s.lasts)) (sym (c.takes.ensures.kept ∙ c.self.view_is)) c.requires.asked.pair.lasts_are

pub find-requires-clause-faulty_is : goal.find-requires-clause-faulty_is
find-requires-clause-faulty_is g c =
    subst (λ (s : Loaded). IsWellFormed (flat s.chip (Some c.get.result))) (sym (c.takes.ensures.kept ∙ c.self.view_is))
    (entry_has (λ (d : ChipDefect). IsWellFormed (flat c.args.self.now.chip (Some d))) c.args.defects.now.list c.args.place c.get.result c.get.ensures c.requires.asked.faulty_are)
