use Rattle.ca_rows.proofs.ChipTableLemmas.{all_found}
use Rattle.ca_rows.proofs.chip_rows.ChipRows.new.Goals as goal

pub invariant_of-result : goal.invariant_of-result
invariant_of-result c = all_found c.args.chip.now c.in_ok-tables_of.field-0.items c.new.result c.in_ok-tables_of.ensures c.new.ensures
