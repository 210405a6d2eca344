use Rattle.std.proofs.Common.{subst}
use Rattle.std.proofs.lemmas.List.Elements.{All-set}
use Rattle.ca_flat.specs.Chip.{cell_at}
use Rattle.ca_view.specs.Linked.{place_in}
use Rattle.ca_view.specs.Places.{cell_number}
use Rattle.ca_sweep.specs.declared.row.Row.{Row}
use Rattle.ca_sweep.specs.code.Loud.{AreLoud}
use Rattle.ca_sweep.specs.code.Rows.{AreCodes, HoldsRow}
use Rattle.ca_sweep.proofs.RowLemmas.{row_true, still_some}
use Rattle.ca_sweep.proofs.rows.Rows.find.Goals as goal

pub returns-clause-rows : goal.returns-clause-rows
returns-clause-rows c =
    let core = c.args.chip.now.core in
    let place_of = place_in c.args.chip.now.ranks in
    let number_of = cell_number c.args.chip.now.chip in
    let row : Row = record {
      number = c.number-number.result;
      pins = c.args.pins;
      codes = c.codes_of-codes.result;
      goods = c.args.goods;
      loud = c.loud_codes-loud.result;
      loud_are = subst (λ list. AreLoud list c.args.goods c.loud_codes-loud.result) c.as_slice-3.ensures.value c.loud_codes-loud.ensures;
    } in
    record {
      lists = c.requires.rows.lists;
      numbers = c.requires.rows.numbers;
      slots = All-set (HoldsRow core place_of number_of) c.args.self.now.slots.items c.slot_of-found.result.slot _
          (row_true core place_of number_of c.args.u row c.linked.ensures.linked c.requires.placed c.number-number.ensures
          (subst (λ list. AreCodes (cell_at core c.args.u) list c.codes_of-codes.result.items) c.as_slice-2.ensures.value c.codes_of-codes.ensures.codes))
          c.requires.rows.slots;
      some = still_some c.args.self.now.slots.items c.slot_of-found.result.slot _ c.requires.rows.some;
    }
