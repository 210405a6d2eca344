use Rattle.std.proofs.Common.{◌≡◌, length, ◌∙◌, ap, sym, subst, arith}
use Rattle.std.proofs.lemmas.List.{length-map}
use Rattle.ca_cell.specs.Library.{Named, raw_of, IsEntry}
use Rattle.ca_cell.specs.Nodes.{defect_count}
use Rattle.ca_cell.specs.Rules.{KeepsRules}
use Rattle.ca_linked.specs.Linked.{LinkedChip, cell_of}
use Rattle.ca_link.specs.code.Limits as limits
use Rattle.ca_link.proofs.EntryLemmas.{kept_within, entry_at, not_refused, few_defects, gate_keeps}
use Rattle.ca_link.proofs.limits.body_defects.Goals as goal

pub entry-requires : goal.entry-requires
entry-requires c =
    let lt = kept_within c.args.draft.now.cells c.in-Gate.cell
    (gate_keeps c.args.draft.now.cells c.args.body.now c.in-Gate.cell c.in-Gate.inputs c.in-Gate.outputs c.in-Gate.is c.requires) in
    let same = ap (λ (d : LinkedChip). length d.cells) c.draft.view_is in
    let count = length-map c.draft.inside.library (λ (named : Named). raw_of named.entry) in
    omega (arith, lt, same, count)

pub unreachable-requires : goal.unreachable-requires
unreachable-requires c =
    let keeps = gate_keeps c.args.draft.now.cells c.args.body.now c.in-Gate.cell c.in-Gate.inputs c.in-Gate.outputs c.in-Gate.is c.requires in
    let same : c.in-Refused.field-0 ≡ cell_of c.args.draft.now.cells c.in-Gate.cell =
    ap raw_of (sym c.in-Refused.is) ∙ entry_at c.draft.inside.library c.in-Gate.cell c.entry.result.now c.entry.ensures.at
    ∙ ap (λ (d : LinkedChip). cell_of d.cells c.in-Gate.cell) c.draft.view_is in
    not_refused c.in-Refused.field-0 c.in-Refused.field-1 (subst IsEntry c.in-Refused.is c.entry.ensures.entry) (subst KeepsRules (sym same) keeps)

pub returns-in-Sound-clause-count : goal.returns-in-Sound-clause-count
returns-in-Sound-clause-count c =
    let same : c.in-Sound.cell ≡ cell_of c.args.draft.now.cells c.in-Gate.cell =
    ap raw_of (sym c.in-Sound.is) ∙ entry_at c.draft.inside.library c.in-Gate.cell c.entry.result.now c.entry.ensures.at
    ∙ ap (λ (d : LinkedChip). cell_of d.cells c.in-Gate.cell) c.draft.view_is in
    c.defect_count.ensures ∙ ap defect_count same ∙ sym (ap (limits.body_defects c.args.draft.now.cells) c.in-Gate.is)

pub returns-in-Sound-clause-few : goal.returns-in-Sound-clause-few
returns-in-Sound-clause-few c =
    let few = few_defects c.in-Sound.cell (subst IsEntry c.in-Sound.is c.entry.ensures.entry).1 in
    let count = c.defect_count.ensures in
    omega (arith, few, count)
