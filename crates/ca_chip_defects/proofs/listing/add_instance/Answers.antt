use Rattle.std.proofs.Common.{◌≡◌, ◌∙◌, ◌++◌, sym, ap, subst, arith, List}
use Rattle.std.specs.List.{All}
use Rattle.std.specs.Prelude.{take, map}
use Rattle.std.proofs.lemmas.List.{take_all}
use Rattle.std.proofs.lemmas.List.Elements.{All-push}
use Rattle.ca_cell.specs.declared.raw.RawCell.{RawCell}
use Rattle.ca_cell.specs.declared.defect.Defect.{Defect}
use Rattle.ca_cell.specs.List.{defects_of, IsDefectOf}
use Rattle.ca_flat.specs.declared.chip_defect.ChipDefect.{ChipDefect}
use Rattle.ca_flat.specs.Chip.{cell_at}
use Rattle.ca_view.specs.Linked.{IsPlacedDefect, place_in}
use Rattle.ca_chip_defects.specs.ChipDefects.{placed_at}
use Rattle.ca_chip_defects.proofs.ListingLemmas.{placed_has, defect_adds}
use Rattle.ca_chip_defects.proofs.listing.add_instance.Goals as goal

pub loop-defect-preserved : goal.loop-defect-preserved
loop-defect-preserved c =
    let chip = c.args.view.now.core in
    let places = c.args.view.now.ranks in
    let P = IsPlacedDefect chip (place_in places) in
    let items = c.as_slice-defect-items.result.now in
    let listed = subst (λ (xs : List Defect). All (IsDefectOf (cell_at chip c.args.u)) xs)
    (sym c.as_slice-defect-items.ensures)
    (subst (λ (raw : RawCell). All (IsDefectOf raw) c.in_ok-defects.defects) c.cell.ensures
    c.in_ok-defects.ensures.listed) in (
      defect_adds c.args.u c.args.list.now c.loop-defect.list c.push.new.self items c.loop-defect.defect-index _
          (omega arith) c.loop-defect.invariant.0 c.in_ok-push.ensures.ok,
      subst (λ (list : List ChipDefect). All P list) (sym c.in_ok-push.ensures.ok)
          (All-push P c.loop-defect.list _ c.loop-defect.invariant.1 (record {
            defect_is = record {
              known = c.requires.known;
              listed = listed c.loop-defect.defect-index _ (omega arith);
            };
            placed = omega arith;
          })),
    )

pub returns-clause-more : goal.returns-clause-more
returns-clause-more c =
    let chip = c.args.view.now.core in
    let place = place_in c.args.view.now.ranks c.args.u in
    let u = c.args.u in
    let items = c.as_slice-defect-items.result.now in
    let whole : take c.loop-defect.defect-index items ≡ defects_of (cell_at chip u) =
    take_all c.loop-defect.defect-index items c.loop-defect-test.false
    ∙ c.as_slice-defect-items.ensures ∙ c.in_ok-defects.ensures.ok ∙ ap defects_of c.cell.ensures in
    c.loop-defect.invariant.0
    ∙ ap (λ (list : List ChipDefect). c.args.list.now ++ list)
    (ap (map (placed_at u)) whole ∙ sym (placed_has chip place u (omega arith)))
