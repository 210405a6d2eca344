use Rattle.std.proofs.Common.{subst, sym, ◌∙◌}
use Rattle.ca_net.specs.State.{value_at}
use Rattle.ca_view.specs.Linked.{place_in}
use Rattle.ca_sweep.specs.Seen.{Swept}
use Rattle.ca_sweep.specs.code.Segments.{IsSegment}
use Rattle.ca_sweep.proofs.sweep.Sweep.segment.Goals as goal

pub invariant_of-self : goal.invariant_of-self
invariant_of-self c =
    let core = c.self-2.inside.chip.now.core in
    let kept = c.self-2.invariant in
    record {
      outputs_are = kept.outputs_are;
      few = kept.few;
      firsts_are = kept.firsts_are;
      tables_are = kept.tables_are;
      all_static = kept.all_static;
      order_is = kept.order_is;
      pinned_are = kept.pinned_are;
      pinned_room = kept.pinned_room;
      nets = kept.nets;
      clear_are = kept.clear_are;
      passing_are = kept.passing_are;
      values_are = kept.values_are;
      segments_are = c.put.ensures core (place_in c.self-2.inside.chip.now.ranks) (value_at c.self-2.inside.lasts) kept.segments_are
          (subst (λ (s : Swept). IsSegment s.chip (place_in s.places) (value_at s.lasts) c.args.u c.args.flips c.in_ok-segment.segment)
          (sym (c.self-2.view_is ∙ c.in_ok-segment.ensures.kept)) c.in_ok-segment.ensures.segment);
    }
