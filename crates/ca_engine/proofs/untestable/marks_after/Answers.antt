use Rattle.std.proofs.Common.{subst, sym, ◌∙◌, ap}
use Rattle.std.specs.Prelude.{Option}
use Rattle.std.specs.List.{All}
use Rattle.std.proofs.lemmas.Result.{IfOk-weaker}
use Rattle.ca_linked.specs.Linked as linked
use Rattle.ca_linked.specs.Instances.{gates_of}
use Rattle.ca_flat.specs.declared.chip_defect.ChipDefect.{ChipDefect}
use Rattle.ca_flat.specs.Chip.{Chip, IsDefectIn}
use Rattle.ca_view.specs.Core.{core_of}
use Rattle.ca_flatten.specs.Few.{IsFew}
use Rattle.ca_judge.specs.ChipJudge.{CanBeJudged}
use Rattle.ca_engine.specs.ChipDefects.{chip_defects}
use Rattle.ca_engine.specs.ChipTask.{task_of}
use Rattle.ca_engine.proofs.CoreLemmas.{core_can_be_judged}
use Rattle.ca_engine.proofs.UntestableLemmas.{marks_are}
use Rattle.ca_engine.proofs.untestable.marks_after.Goals as goal

pub marks_of-requires-clause-table : goal.marks_of-requires-clause-table
marks_of-requires-clause-table g c = c.in_ok-table.ensures ∙ sym c.requires

pub marks_of-requires-clause-defects : goal.marks_of-requires-clause-defects
marks_of-requires-clause-defects g c = subst (λ x. All (IsDefectIn x) c.in_ok-defects.defects) (sym c.requires)
    (λ k d within. (c.in_ok-defects.ensures.placed k d within).defect_is)

pub marks_of-requires-clause-judged : goal.marks_of-requires-clause-judged
marks_of-requires-clause-judged g c = subst CanBeJudged (sym c.requires)
    (core_can_be_judged c.args.view.now c.viewed.ensures.wired c.flat_is_well_formed.ensures
    (subst (λ (chip : linked.LinkedChip). (given : Option ChipDefect) → IsFew (core_of chip) given) c.chip.ensures (c.in_ok-judge_size.ensures {u = tt}))
    c.viewed.ensures.is_view)

pub returns : goal.returns
returns g c =
    let view = c.args.view.now in
    let core_is = c.viewed.ensures.is_view.core_is in
    IfOk-weaker c.marks_of.result _ _
    (λ marks are budget. marks_are (g.R.ExposingRows.chip c.args.rows.now) (task_of c.args.view.now.chip budget) c.in_ok-defects.defects marks.items (λ place. c.requires ∙ core_is)
    (c.in_ok-defects.ensures.exact ∙ ap (λ (core : Chip). chip_defects core (gates_of c.args.view.now.chip)) core_is) are) c.marks_of.ensures

pub wanted_lasts-requires-clause-defects : goal.wanted_lasts-requires-clause-defects
wanted_lasts-requires-clause-defects g c = subst (λ x. All (IsDefectIn x) c.in_ok-defects.defects) (sym c.requires)
    (λ k d within. (c.in_ok-defects.ensures.placed k d within).defect_is)
