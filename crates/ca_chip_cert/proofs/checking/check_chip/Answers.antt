use Rattle.std.proofs.Common.{IfOk, ◌≡◌, length, List, subst, sym, ◌∙◌, ap}
use Rattle.std.specs.List.{All}
use Rattle.ca_flat.specs.declared.chip_defect.ChipDefect.{ChipDefect}
use Rattle.ca_flat.specs.Chip.{Chip}
use Rattle.ca_flat.specs.Pair.{bit_count}
use Rattle.ca_linked.specs.Instances.{gates_of}
use Rattle.ca_view.specs.Core.{core_of}
use Rattle.ca_chip_defects.specs.ChipDefects.{chip_defects}
use Rattle.ca_claim.specs.Stands.{IsAnswer}
use Rattle.ca_claim.specs.Laws.{IsYesTrue}
use Rattle.ca_chip_cert.proofs.ViewLemmas.{viewed_list}
use Rattle.ca_chip_cert.proofs.checking.check_chip.Goals as goal

pub check_viewed-answer-requires-clause-one_each : goal.check_viewed-answer-requires-clause-one_each
check_viewed-answer-requires-clause-one_each c =
    c.requires.one_each ∙ ap length (sym (viewed_list c.args.chip.now c.in_ok-view.view c.in_ok-view.ensures))

pub check_viewed-answer-requires-clause-bits : goal.check_viewed-answer-requires-clause-bits
check_viewed-answer-requires-clause-bits c =
    subst (λ (core : Chip). All (λ bits. length bits ≡ bit_count core) c.args.pairs.now)
    (sym c.in_ok-view.ensures.core_is) c.requires.bits

pub returns-clause-answer : goal.returns-clause-answer
returns-clause-answer c =
    let claimed = c.args.certificate.now in
    let core = c.in_ok-view.ensures.core_is in
    let list = viewed_list c.args.chip.now c.in_ok-view.view c.in_ok-view.ensures in
    subst (λ (defects : List ChipDefect). IfOk c.check_viewed-answer.result
    (IsAnswer (core_of c.args.chip.now) defects c.args.pairs.now claimed.budget claimed.claims)) list
    (subst (λ (core : Chip). IfOk c.check_viewed-answer.result
    (IsAnswer core (chip_defects c.in_ok-view.view.core (gates_of c.in_ok-view.view.chip)) c.args.pairs.now
    claimed.budget claimed.claims)) core c.check_viewed-answer.ensures.answer)

pub returns-clause-proves : goal.returns-clause-proves
returns-clause-proves c =
    let claimed = c.args.certificate.now in
    let core = c.in_ok-view.ensures.core_is in
    let list = viewed_list c.args.chip.now c.in_ok-view.view c.in_ok-view.ensures in
    subst (λ (defects : List ChipDefect). IfOk c.check_viewed-answer.result
    (IsYesTrue (core_of c.args.chip.now) defects c.args.pairs.now claimed.budget claimed.claims)) list
    (subst (λ (core : Chip). IfOk c.check_viewed-answer.result
    (IsYesTrue core (chip_defects c.in_ok-view.view.core (gates_of c.in_ok-view.view.chip)) c.args.pairs.now
    claimed.budget claimed.claims)) core c.check_viewed-answer.ensures.proves)
