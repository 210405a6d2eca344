use Rattle.ca_wiring.specs.declared.scan_row.ScanRow.{ScanRow}
use Rattle.ca_bridges_tests.proofs.RowLemmas.{none_double}
use Rattle.ca_bridges_tests.proofs.judging.linked_netlist.Goals as goal

pub link-requires-clause-rows : goal.link-requires-clause-rows
link-requires-clause-rows c = none_double (λ (row : ScanRow). row.cell) c.new-scan.result c.new-scan.ensures
