use Rattle.std.proofs.Common.{sym, subst, List, ℕ}
use Rattle.ca_wiring.specs.declared.scan_row.ScanRow.{ScanRow}
use Rattle.ca_wiring.specs.Wiring.{joins_of, wiring_of}
use Rattle.ca_wiring.specs.Linking.{IsLinkOf}
use Rattle.ca_linked.specs.Drivers.{IsDrafted}
use Rattle.ca_draft.specs.code.OnWires.{IsNumbering}
use Rattle.ca_draft.proofs.DraftLemmas.{draft_link, draft_drafted, parts_within, ports_within, chip_is}
use Rattle.ca_draft.proofs.draft.draft_of.Goals as goal

pub number_parts-requires : goal.number_parts-requires
number_parts-requires c =
    let made = c.in_ok-made.made in
    let numbering = subst (λ (l : List ℕ). IsNumbering (joins_of made.bits c.args.netlist.now.joins) made.wires l c.in_ok-table.table) c.deref.ensures.value
    (c.in_ok-table.ensures {u = tt}).numbering in
    parts_within c.args.netlist.now c.args.library c.as_slice.result.now made (c.in_ok-made.ensures {u = tt}) c.in_ok-table.table numbering

pub number_ports-requires : goal.number_ports-requires
number_ports-requires c =
    let made = c.in_ok-made.made in
    let numbering = subst (λ (l : List ℕ). IsNumbering (joins_of made.bits c.args.netlist.now.joins) made.wires l c.in_ok-table.table) c.deref.ensures.value
    (c.in_ok-table.ensures {u = tt}).numbering in
    ports_within c.args.netlist.now c.args.library c.as_slice.result.now made (c.in_ok-made.ensures {u = tt}) c.in_ok-table.table numbering

pub returns-clause-link : goal.returns-clause-link
returns-clause-link c =
    let made = c.in_ok-made.made in
    let numbering = subst (λ (l : List ℕ). IsNumbering (joins_of made.bits c.args.netlist.now.joins) made.wires l c.in_ok-table.table) c.deref.ensures.value
    (c.in_ok-table.ensures {u = tt}).numbering in
    let same = chip_is c.args.library made c.in_ok-table.table c.new.result _ _ _ _ _ c.new.ensures c.nets.ensures c.number_constant-zero.ensures
    c.number_constant-one.ensures (c.in_ok-number_parts.ensures {u = tt}) c.number_ports.ensures in
    subst (λ (rows : List ScanRow). IsLinkOf (wiring_of c.args.netlist.now c.args.library rows) c.new.result) c.as_slice.ensures
    (subst (IsLinkOf (wiring_of c.args.netlist.now c.args.library c.as_slice.result.now)) (sym same)
    (draft_link c.args.netlist.now c.args.library c.as_slice.result.now made (c.in_ok-made.ensures {u = tt}) c.in_ok-table.table numbering))

pub returns-clause-drafted : goal.returns-clause-drafted
returns-clause-drafted c =
    let made = c.in_ok-made.made in
    let numbering = subst (λ (l : List ℕ). IsNumbering (joins_of made.bits c.args.netlist.now.joins) made.wires l c.in_ok-table.table) c.deref.ensures.value
    (c.in_ok-table.ensures {u = tt}).numbering in
    let same = chip_is c.args.library made c.in_ok-table.table c.new.result _ _ _ _ _ c.new.ensures c.nets.ensures c.number_constant-zero.ensures
    c.number_constant-one.ensures (c.in_ok-number_parts.ensures {u = tt}) c.number_ports.ensures in
    subst IsDrafted (sym same)
    (draft_drafted c.args.netlist.now c.args.library c.as_slice.result.now made (c.in_ok-made.ensures {u = tt}) c.in_ok-table.table numbering
    (c.numbering_of.ensures).few)
