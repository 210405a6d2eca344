use Rattle.std.proofs.Common.{◌∙◌, sym, subst}
use Rattle.ca_wiring.specs.declared.scan_row.ScanRow.{ScanRow}
use Rattle.std.specs.Prelude.{List}
use Rattle.ca_link.specs.code.Names.{HaveNames}
use Rattle.ca_link.specs.code.Reported.{ReportsFault}
use Rattle.ca_link.proofs.CauseLemmas.{wire_cause, made_link, made_cause, made_kept}
use Rattle.ca_link.proofs.NameLemmas.{have_names}
use Rattle.ca_link.proofs.linking.link_instances.Goals as goal

pub tell-reported-requires-clause-names : goal.tell-reported-requires-clause-names
tell-reported-requires-clause-names c =
    subst (HaveNames c.in_ok-draft.draft) (sym c.as_slice.ensures)
    (have_names c.args.netlist.now c.args.library c.args.scan.now c.in_ok-draft.draft c.in_ok-draft.ensures.link)

pub returns-in_ok-reported-in-Err-clause-cause : goal.returns-in_ok-reported-in-Err-clause-cause
returns-in_ok-reported-in-Err-clause-cause c =
    wire_cause c.args.netlist.now c.args.library c.args.scan.now c.in_ok-draft.draft c.in_ok-draft.ensures.link
    c.requires.sound
    c.in-Err.fault c.in-Err.ensures.cause c.in_ok-reported-in-Err.field-0
    (subst (λ (scan : List ScanRow). ReportsFault c.in_ok-draft.draft scan c.in-Err.fault c.in_ok-reported-in-Err.field-0)
    c.as_slice.ensures c.in_ok-reported-in-Err.ensures)

pub returns-in-Some-clause-cause : goal.returns-in-Some-clause-cause
returns-in-Some-clause-cause c =
    made_cause c.args.netlist.now c.args.library c.args.scan.now c.in_ok-draft.draft c.in_ok-draft.ensures.link
    c.requires.sound
    c.in-Ok.ensures.kept c.in_ok-chip-in-Ok.chip c.in_ok-chip-in-Ok.ensures.ok c.in_ok-chip-in-Ok.ensures.wired
    c.defects_of-defects.result c.defects_of-defects.ensures c.in-Some.fault (sym c.first_limit.ensures ∙ c.in-Some.is)

pub returns-in-None-clause-ok : goal.returns-in-None-clause-ok
returns-in-None-clause-ok c =
    made_link c.args.netlist.now c.args.library c.args.scan.now c.in_ok-draft.draft c.in_ok-draft.ensures.link
    c.requires.sound
    c.in-Ok.ensures.kept c.in_ok-chip-in-Ok.chip c.in_ok-chip-in-Ok.ensures.ok

pub returns-in-None-clause-kept : goal.returns-in-None-clause-kept
returns-in-None-clause-kept c =
    made_kept c.args.netlist.now c.args.library c.args.scan.now c.in_ok-draft.draft c.in_ok-draft.ensures.link
    c.requires.sound
    c.in-Ok.ensures.kept c.in_ok-chip-in-Ok.chip c.in_ok-chip-in-Ok.ensures.ok c.in_ok-chip-in-Ok.ensures.wired
    c.defects_of-defects.result c.defects_of-defects.ensures (sym c.first_limit.ensures ∙ c.in-None.is)
