use Rattle.std.proofs.Common.{◌∙◌, ◌+◌, ap, sym}
use Rattle.std.specs.Prelude.{drop}
use Rattle.ca_linked.specs.declared.parts.Body.{Body}
use Rattle.ca_linked.specs.Controls.{first_scan, scan_or}
use Rattle.ca_linked.proofs.EndLemmas.{drop_at}
use Rattle.ca_linked.proofs.controls.first_scan.Goals as goal

pub returns-in-Scan : goal.returns-in-Scan
returns-in-Scan c =
    let parts = c.args.draft.now.parts in
    sym (c.loop-u.invariant ∙ ap first_scan (drop_at parts c.loop-u.u c.part.result.now c.part.ensures)
    ∙ ap (λ (body : Body). scan_or body (first_scan (drop (c.loop-u.u + 1) parts))) c.in-Scan.is)

pub loop-u-preserved : goal.loop-u-preserved
loop-u-preserved c =
    let parts = c.args.draft.now.parts in
    c.loop-u.invariant ∙ ap first_scan (drop_at parts c.loop-u.u c.part.result.now c.part.ensures)
    ∙ ap (λ (body : Body). scan_or body (first_scan (drop (c.loop-u.u + 1) parts))) c.in_default.is
