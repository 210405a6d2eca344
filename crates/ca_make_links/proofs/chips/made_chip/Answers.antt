use Rattle.std.proofs.Common.{List, map, sym, subst}
use Rattle.std.specs.List.{IsDistinct}
use Rattle.std.specs.Str.{bytes_eq}
use Rattle.ca_cell.specs.Library.{Named}
use Rattle.ca_verilog.specs.declared.raw.RawNetlist.{RawNetlist}
use Rattle.ca_wiring.specs.declared.scan_row.ScanRow.{ScanRow}
use Rattle.ca_wiring.specs.Rules.{IsCause}
use Rattle.ca_make_laws.specs.Cells.{sound_library}
use Rattle.ca_make_laws.specs.ChipNetlist.{chip_netlist}
use Rattle.ca_make_links.proofs.RuleLemmas.{memory_alone}
use Rattle.ca_make_links.proofs.chips.made_chip.Goals as goal

pub link-requires-clause-rows : goal.link-requires-clause-rows
unfolding IsDistinct
link-requires-clause-rows c =
    subst (λ (rows : List ScanRow). IsDistinct bytes_eq (map (λ (row : ScanRow). row.cell) rows)) (sym c.new-scan.ensures) tt

pub want_of_memory-requires : goal.want_of_memory-requires
want_of_memory-requires c =
    memory_alone c.args.n c.requires c.in-Err.fault
    (subst (λ (rows : List ScanRow). IsCause (chip_netlist c.args.n) sound_library rows c.in-Err.fault) c.new-scan.ensures
    (subst (λ (library : List Named). IsCause (chip_netlist c.args.n) library c.new-scan.result c.in-Err.fault)
    (c.in_ok-library.ensures {u = tt}).sound
    (subst (λ (raw : RawNetlist). IsCause raw c.in_ok-library.library c.new-scan.result c.in-Err.fault)
    (c.in_ok-netlist.ensures {u = tt}).netlist (c.in-Err.ensures {u = tt}).cause)))
