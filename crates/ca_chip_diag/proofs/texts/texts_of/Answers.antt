use Rattle.std.proofs.Common.{◌≡◌, ◌<◌, length, subst, sym}
use Rattle.std.specs.Prelude.{IfOk}
use Rattle.std.specs.List.{All}
use Rattle.ca_linked.specs.Linked.{LinkedChip}
use Rattle.ca_engine.specs.ChipTask.{task_of}
use Rattle.ca_chip_diag.specs.Texts.{candidates_text, diagnosis_line}
use Rattle.ca_chip_diag.proofs.texts.texts_of.Goals as goal

pub texts_over-texts-requires : goal.texts_over-texts-requires
texts_over-texts-requires c =
    subst (λ (chip : LinkedChip). All (λ one. one.defect < length (task_of chip 0).defects) c.args.candidates.now)
    (sym c.in_ok-view.ensures.chip_is) c.requires

pub returns-clause-candidates : goal.returns-clause-candidates
returns-clause-candidates c =
    subst (λ (chip : LinkedChip). IfOk c.texts_over-texts.result (λ texts.
    texts.candidates ≡ candidates_text chip (task_of chip 0).defects c.args.candidates.now))
    c.in_ok-view.ensures.chip_is c.texts_over-texts.ensures.candidates

pub returns-clause-line : goal.returns-clause-line
returns-clause-line c =
    subst (λ (chip : LinkedChip). IfOk c.texts_over-texts.result (λ texts.
    texts.line ≡ diagnosis_line (length c.args.candidates.now) (length (task_of chip 0).defects) c.args.records))
    c.in_ok-view.ensures.chip_is c.texts_over-texts.ensures.line
