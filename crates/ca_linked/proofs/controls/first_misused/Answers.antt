use Rattle.std.proofs.Common.{◌∙◌, ◌+◌, ap, sym}
use Rattle.std.specs.Prelude.{drop}
use Rattle.ca_linked.specs.Controls.{first_scan, body_fault, misused_or, misused_from}
use Rattle.ca_linked.proofs.EndLemmas.{drop_at}
use Rattle.ca_linked.proofs.controls.first_misused.Goals as goal

pub returns-in-Some : goal.returns-in-Some
returns-in-Some c =
    let chip = c.args.draft.now in
    sym (c.loop-u.invariant
    ∙ ap (misused_from chip (first_scan chip.parts) c.loop-u.u) (drop_at chip.parts c.loop-u.u c.part.result.now c.part.ensures)
    ∙ ap (λ pin. misused_or c.loop-u.u pin (misused_from chip (first_scan chip.parts) (c.loop-u.u + 1) (drop (c.loop-u.u + 1) chip.parts)))
    (ap (λ first. body_fault chip first c.part.result.now.body) (sym c.first_scan-first.ensures) ∙ sym c.body_fault.ensures ∙ c.in-Some.is))

pub loop-u-preserved : goal.loop-u-preserved
loop-u-preserved c =
    let chip = c.args.draft.now in
    c.loop-u.invariant
    ∙ ap (misused_from chip (first_scan chip.parts) c.loop-u.u) (drop_at chip.parts c.loop-u.u c.part.result.now c.part.ensures)
    ∙ ap (λ pin. misused_or c.loop-u.u pin (misused_from chip (first_scan chip.parts) (c.loop-u.u + 1) (drop (c.loop-u.u + 1) chip.parts)))
    (ap (λ first. body_fault chip first c.part.result.now.body) (sym c.first_scan-first.ensures) ∙ sym c.body_fault.ensures ∙ c.in_default.is)
