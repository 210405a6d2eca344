use Rattle.std.proofs.Common.{length, subst, sym}
use Rattle.std.specs.Prelude.{IfSome}
use Rattle.ca_net.specs.State.{value_at}
use Rattle.ca_view.specs.Linked.{place_in}
use Rattle.ca_sweep.specs.Seen.{Swept}
use Rattle.ca_sweep.specs.code.Segments.{IsSegment}
use Rattle.ca_sweep.specs.code.Firsts.{AreFirsts}
use Rattle.ca_sweep.proofs.sweep.Sweep.find_segment.Goals.{in-Stuck, in-Done, in-Cut}
use Rattle.ca_sweep.proofs.sweep.Sweep.find_segment.Goals as goal

pub first_opposite-first-requires-clause-firsts : goal.first_opposite-first-requires-clause-firsts
first_opposite-first-requires-clause-firsts c =
    let core = c.self.inside.chip.now.core in
    let kept = c.self.invariant in
    subst (λ list. AreFirsts core.outputs (length core.nets) list) (sym c.deref-2.ensures.value)
    (subst (λ outputs. AreFirsts outputs (length core.nets) c.self.inside.firsts.items) kept.outputs_are kept.firsts_are)

pub returns-clause-segment : goal.returns-clause-segment
returns-clause-segment c =
    let core = c.self.inside.chip.now.core in
    let place_of = place_in c.self.inside.chip.now.ranks in
    let goods = value_at c.self.inside.lasts in
    let first = c.first_opposite-first.ensures in
    subst (λ (s : Swept). IfSome c.match-halt.result (IsSegment s.chip (place_in s.places) (value_at s.lasts) c.args.u c.args.flips)) c.self.view_is
    (elim c.match-halt.branch [
      | in-Stuck w ↦ subst (λ r. IfSome r (IsSegment core place_of goods c.args.u c.args.flips)) (sym w.result-is) tt
      | in-Done w ↦ subst (λ r. IfSome r (IsSegment core place_of goods c.args.u c.args.flips)) (sym w.result-is) (record {
        values = value_at c.sweep-halt.new.values.values;
        swept = w.in-Done.ensures.swept.0;
        changed = w.in-Done.ensures.swept.1;
        first = first;
      })
      | in-Cut w ↦ subst (λ r. IfSome r (IsSegment core place_of goods c.args.u c.args.flips)) (sym w.result-is) (record {
        values = value_at c.sweep-halt.new.values.values;
        until = w.in-Cut.ensures.swept.0;
        cut = w.in-Cut.ensures.swept.1;
        first = first;
      })
    ])
