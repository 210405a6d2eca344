use Rattle.std.proofs.Common.{◌≡◌, ◌+◌, ap, arith, length, refl, subst, sym, ◌∙◌}
use Rattle.ca_flat.specs.Chip.{cell_at}
use Rattle.ca_sweep.specs.Spans.{AreOfCell}
use Rattle.ca_sweep.specs.code.Spans.{AreSpansTo, start_of}
use Rattle.ca_sweep.proofs.SpanLemmas.{span_ends, span_goes_on}
use Rattle.ca_sweep.proofs.spans.spans_of.Goals as goal
use Rattle.ca_sweep.proofs.spans.spans_of.Goals.{then-is_last+in_ok-push, else-is_last}

pub loop-place-preserved : goal.loop-place-preserved
loop-place-preserved c =
    let chip = c.args.chip.now.core in
    let list = c.args.list.now in
    let place = c.loop-place.place in
    elim c.if-is_last.branch as (λ x. AreSpansTo chip list c.if-is_last.spans.items (place + 1)) [
      | then-is_last+in_ok-push w ↦
          let span = w.span_to-span in
          let start : w.start_after-start.result ≡ start_of c.loop-place.spans.items (length c.loop-place.spans.items) =
          w.start_after-start.ensures ∙ ap (λ spans. start_of spans (length spans)) w.deref.ensures.value in
          subst (λ spans. AreSpansTo chip list spans (place + 1)) (sym (ap (λ spans. spans.items) w.spans-is ∙ w.in_ok-push.ensures.items))
          (span_ends chip list c.loop-place.spans.items place w.get.result span.result c.loop-place.invariant
          (let count = c.len-place-end.ensures in let below = c.loop-place-test.true in omega arith) w.get.ensures span.ensures.end span.ensures.instance
          (λ is. subst (λ from. AreOfCell (cell_at chip span.result.instance) list from (place + 1)) start
          (subst (λ u. AreOfCell (cell_at chip u) list w.start_after-start.result (place + 1)) (sym span.ensures.instance) (span.ensures.whole is))))
      | else-is_last w ↦ subst (λ spans. AreSpansTo chip list spans.items (place + 1)) (sym w.spans-is)
          (span_goes_on chip list c.loop-place.spans.items place c.loop-place.invariant (w.if-is_last.ensures.more refl) (w.if-is_last.ensures.alike refl))
    ]
