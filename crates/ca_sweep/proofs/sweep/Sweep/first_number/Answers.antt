use Rattle.std.proofs.Common.{◌≡◌, min, arith, subst, ◌∙◌}
use Rattle.ca_net.specs.State.{value_at}
use Rattle.ca_view.specs.Linked.{IsLinked, place_in}
use Rattle.ca_view.specs.Places.{cell_number}
use Rattle.ca_sweep.specs.Seen.{Swept}
use Rattle.ca_sweep.specs.code.Segments.{IsPartTo, IsCutAt, IsSweptFrom}
use Rattle.ca_sweep.proofs.SegmentLemmas.{joined}
use Rattle.ca_sweep.proofs.sweep.Sweep.first_number.Goals as goal

pub parts-preserved : goal.parts-preserved
parts-preserved c =
    let now = c.args.self.now in
    let segment = c.in_ok-segment.segment in
    let w = c.in-Some.cut.instance in
    let linked = subst (λ (s : Swept). IsLinked s.chip (place_in s.places) (cell_number c.self.inside.chip.now.chip)) c.self.view_is c.linked.ensures.linked in
    let cut : IsCutAt c.args.self.now.chip (place_in c.args.self.now.places) (value_at c.args.self.now.lasts) c.parts.from c.parts.flips c.in_ok-segment.segment.first c.in-Some.cut.instance c.in-Some.cut.flips =
    subst (λ (s : Swept). IsCutAt s.chip (place_in s.places) (value_at s.lasts) c.parts.from c.parts.flips c.in_ok-segment.segment.first c.in-Some.cut.instance c.in-Some.cut.flips) c.parts.invariant.kept
    (subst (λ next. IsPartTo c.parts.self.chip (place_in c.parts.self.places) (value_at c.parts.self.lasts) c.parts.from c.parts.flips c.in_ok-segment.segment.first next) c.in-Some.is c.in_ok-segment.ensures.segment) in
    record {
      kept = c.in_ok-segment.ensures.kept ∙ c.parts.invariant.kept;
      placed = cut.until.placed;
      leads = λ after rest.
          let both = joined c.args.self.now.chip (place_in c.args.self.now.places) (cell_number c.self.inside.chip.now.chip) linked (value_at c.args.self.now.lasts)
          c.parts.from c.in-Some.cut.instance c.parts.flips c.in-Some.cut.flips c.in_ok-segment.segment.first after c.parts.invariant.placed.known cut rest in
          let sum : min c.parts.number (min c.in_ok-segment.segment.first after) ≡ min c.min-number.result after =
          let e = c.min-number.ensures in omega arith in
          subst (IsSweptFrom c.args.self.now.chip (place_in c.args.self.now.places) (value_at c.args.self.now.lasts) c.args.u c.args.flips) sum
          (c.parts.invariant.leads (min c.in_ok-segment.segment.first after) both);
    }
