use Rattle.std.proofs.Common.{ℕ, List, ◌∙◌, subst, arith}
use Rattle.ca_view.specs.code.Ends.{AreMarked}
use Rattle.ca_view.proofs.EndLemmas.{numbers_cover}
use Rattle.ca_view.proofs.ViewLemmas.{view_is_kept}
use Rattle.ca_view.proofs.view.View.new.Goals as goal

pub marks_of-requires : goal.marks_of-requires
marks_of-requires c =
    numbers_cover c.args.chip.now c.wired.ensures c.in_ok-numbers.numbers c.count.result c.deref.result.now c.in_ok-numbers.ensures c.count.ensures
    (c.deref.ensures.value ∙ c.in_ok-outputs.ensures)

pub invariant_of-result : goal.invariant_of-result
invariant_of-result c =
    view_is_kept c.args.chip.now c.wired.ensures c.in_ok-numbers.numbers c.in_ok-ranks.ranks.items c.in_ok-readers.readers.items
    c.in_ok-constants.constants.items c.in_ok-pins.pins c.in_ok-onward.onward c.in_ok-back.back c.in_ok-observed.observed.items
    c.in_ok-inputs.inputs.items c.in_ok-outputs.outputs.items c.count.result
    (let few = c.if-inputs-gt-MOST_PATTERN_INPUTS.false in let count = c.inputs.ensures in omega arith)
    c.in_ok-numbers.ensures c.in_ok-ranks.ensures c.in_ok-readers.ensures c.in_ok-constants.ensures c.in_ok-pins.ensures
    c.in_ok-onward.ensures c.in_ok-back.ensures c.count.ensures
    (subst (λ (l : List ℕ). AreMarked c.count.result l c.in_ok-observed.observed.items) c.deref.ensures.value c.in_ok-observed.ensures)
    c.in_ok-inputs.ensures c.in_ok-outputs.ensures

pub returns : goal.returns
returns c =
    (view_is_kept c.args.chip.now c.wired.ensures c.in_ok-numbers.numbers c.in_ok-ranks.ranks.items c.in_ok-readers.readers.items
    c.in_ok-constants.constants.items c.in_ok-pins.pins c.in_ok-onward.onward c.in_ok-back.back c.in_ok-observed.observed.items
    c.in_ok-inputs.inputs.items c.in_ok-outputs.outputs.items c.count.result
    (let few = c.if-inputs-gt-MOST_PATTERN_INPUTS.false in let count = c.inputs.ensures in omega arith)
    c.in_ok-numbers.ensures c.in_ok-ranks.ensures c.in_ok-readers.ensures c.in_ok-constants.ensures c.in_ok-pins.ensures
    c.in_ok-onward.ensures c.in_ok-back.ensures c.count.ensures
    (subst (λ (l : List ℕ). AreMarked c.count.result l c.in_ok-observed.observed.items) c.deref.ensures.value c.in_ok-observed.ensures)
    c.in_ok-inputs.ensures c.in_ok-outputs.ensures).is_view
