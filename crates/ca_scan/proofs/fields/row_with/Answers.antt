use Rattle.std.proofs.Common.{◌≡◌, ◌∙◌, length, ap, sym, arith, Some}
use Rattle.ca_wiring.specs.declared.scan_row.ScanRow.{ScanRow}
use Rattle.ca_scan.specs.Table.{row_of}
use Rattle.ca_scan.proofs.TableLemmas.{nine}
use Rattle.ca_scan.proofs.fields.row_with.Goals as goal

pub returns : goal.returns
returns c =
    let long : length c.args.fields.now ≡ 9 = omega (arith, c.in-len9.len_at_least, c.in-len9.len_below) in
    ap (λ (row : ScanRow). Some row) c.in_ok-row.ensures
    ∙ ((λ j. Some (row_of (c.as_bytes.ensures j) (c.as_bytes-2.ensures j) (c.as_bytes-3.ensures j) (c.as_bytes-4.ensures j) (c.as_bytes-5.ensures j) (c.as_bytes-6.ensures j) (c.as_bytes-7.ensures j) (c.as_bytes-8.ensures j) (c.as_bytes-9.ensures j)))
    ∙ sym (nine c.args.fields.now c.cell-item.result c.d-item.result c.q-item.result c.qn-item.result c.si-item.result c.so-item.result c.se-item.result c.ck-item.result c.hold-item.result long
    c.cell-item.is c.d-item.is c.q-item.is c.qn-item.is c.si-item.is c.so-item.is c.se-item.is c.ck-item.is c.hold-item.is))
