use Rattle.std.proofs.Common.{◌≡◌, [], length, sym, ◌∙◌, ap, subst, arith, rules, get_or}
use Rattle.std.specs.Prelude.{Some}
use Rattle.std.proofs.lemmas.List.{get_or_default}
use Rattle.ca_rows.specs.CellTable.{ListsRows, CellTable}
use Rattle.ca_rows.specs.code.CellTable.{IsCellTable}
use Rattle.ca_rows.proofs.CellTableLemmas.{some_place}
use Rattle.ca_rows.proofs.cell_rows.CellRows.rows.Goals as goal

pub returns-then-eq : goal.returns-then-eq
returns-then-eq c =
    let same : c.get.result ≡ c.args.defect = search rules in
    let row : c.index.result.now ≡ get_or c.self.inside.rows.items c.loop-place.place [] =
    c.index.ensures
    ∙ get_or_default c.self.inside.rows.items c.loop-place.place c.index.result.now []
    (let counted = c.self.invariant.counted in let end = c.len-place-end.ensures in let before = c.loop-place-test.true in omega arith) in
    subst (λ (t : CellTable). ListsRows t.cell c.args.defect c.index.result.now) c.self.view_is
    (subst (ListsRows c.self.inside.cell.now c.args.defect) (sym row)
    (c.self.invariant.lists c.loop-place.place c.args.defect (c.get.ensures ∙ ap Some same)))

pub unreachable-requires : goal.unreachable-requires
unreachable-requires c =
    let t = c.args.self.now in
    let kept = subst IsCellTable c.self.view_is c.self.invariant in
    some_place t.cell t.defects c.args.defect c.loop-place.place (c.lists_defects.ensures t.cell) kept.defects_are c.requires c.loop-place.invariant
    (let end = c.len-place-end.ensures in let past = c.loop-place-test.false in let same = ap (λ (t : CellTable). length t.defects) c.self.view_is in omega arith)
