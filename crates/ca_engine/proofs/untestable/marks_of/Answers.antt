use Rattle.std.proofs.Common.{◌≡◌, ◌+◌, ◌∷◌, [], length, length-append, subst, sym, ◌∙◌, ap, Some}
use Rattle.std.specs.Prelude.{slice_get}
use Rattle.std.proofs.lemmas.Option.{get_or_from_slice_get, slice_get_within}
use Rattle.ca_net.specs.Circuit.{IsWellFormed}
use Rattle.ca_flat.specs.Chip.{IsDefectIn}
use Rattle.ca_flat.specs.Flat.{flat}
use Rattle.ca_flat.specs.Rows.{ListsExposingRows}
use Rattle.ca_flat.specs.Detection.{IsUntestable}
use Rattle.ca_engine.specs.code.Untestable.{AreMarked}
use Rattle.ca_engine.proofs.UntestableLemmas.{one_more}
use Rattle.ca_engine.proofs.untestable.marks_of.Goals as goal

pub is_untestable-requires-clause-rows : goal.is_untestable-requires-clause-rows
is_untestable-requires-clause-rows g c = subst (λ chip. ListsExposingRows chip c.get-defect.result c.rows.result.now) (sym c.requires.table) c.rows.ensures

pub is_untestable-requires-clause-faulty_is : goal.is_untestable-requires-clause-faulty_is
is_untestable-requires-clause-faulty_is g c =
    let defect = c.get-defect.result in
    let defects = c.args.defects.now in
    let at = c.get-defect.ensures in
    let within = slice_get_within c.args.defects.now c.loop-place.place c.get-defect.result at in
    let defect_is = subst (IsDefectIn (g.R.ExposingRows.chip c.args.rows.now)) (get_or_from_slice_get c.args.defects.now c.loop-place.place c.get-defect.result c.get-defect.result at)
    (c.requires.defects c.loop-place.place c.get-defect.result within) in
    subst (λ chip. IsWellFormed (flat chip (Some c.get-defect.result))) (sym c.requires.table) (c.requires.judged.faulty_are c.get-defect.result defect_is)

pub loop-place-preserved : goal.loop-place-preserved
loop-place-preserved g c =
    let chip = g.R.ExposingRows.chip c.args.rows.now in
    let marks = c.loop-place.marks.items in
    let mark = c.is_untestable.result in
    let items = c.in_ok-push.ensures.items in
    let here = subst (λ n. slice_get c.args.defects.now n ≡ Some c.get-defect.result) (sym c.loop-place.invariant.long) c.get-defect.ensures in
    record {
      long = ap length items ∙ length-append c.loop-place.marks.items (c.is_untestable.result ∷ []) ∙ ap (λ n. n + 1) c.loop-place.invariant.long;
      marked = subst (AreMarked (g.R.ExposingRows.chip c.args.rows.now) c.args.defects.now) (sym items)
          (one_more (g.R.ExposingRows.chip c.args.rows.now) c.args.defects.now c.loop-place.marks.items c.is_untestable.result c.get-defect.result here
          (λ marked. subst (λ x. IsUntestable x c.get-defect.result) c.requires.table (c.is_untestable.ensures marked)) c.loop-place.invariant.marked);
    }
