use Rattle.std.proofs.Common.{◌<◌, ◌∙◌, length, ap, sym, subst, false}
use Rattle.std.specs.List.{All}
use Rattle.std.proofs.lemmas.List.{length-replicate}
use Rattle.ca_merge.proofs.MergeLemmas.{marks_fit, marked_same, others_more}
use Rattle.ca_merge.proofs.draft.other_parts.Goals as goal

pub mark_all-requires : goal.mark_all-requires
mark_all-requires c =
    subst (All (λ u. u < length c.in_ok-marks.marks)) (sym c.as_slice.ensures)
    (marks_fit c.args.chip.now c.args.members.now c.in_ok-marks.marks c.parts.result c.wired.ensures c.requires c.parts.ensures
    (ap (λ ms. length ms) (c.in_ok-marks.ensures {u = tt}) ∙ length-replicate c.parts.result false))

pub loop-k-preserved : goal.loop-k-preserved
loop-k-preserved c =
    others_more c.args.chip.now c.args.members.now c.loop-k.k c.part.result.now c.get.result c.loop-k.parts.items c.push_part.new.parts.items c.part.ensures
    (c.get.ensures ∙ marked_same c.in_ok-marks.marks c.mark_all.new.self c.as_slice.result.now c.args.members.now c.parts.result c.loop-k.k
    (c.in_ok-marks.ensures {u = tt}) c.mark_all.ensures c.as_slice.ensures
    (subst (λ n. c.loop-k.k < n) (c.parts-k-end.ensures ∙ sym c.parts.ensures) c.loop-k-test.true))
    c.loop-k.invariant (c.in_ok-push_part.ensures {u = tt})
