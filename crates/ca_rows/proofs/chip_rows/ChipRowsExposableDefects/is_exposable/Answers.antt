use Rattle.std.proofs.Common.{ap}
use Rattle.ca_rows.specs.ChipTable.{ChipTable}
use Rattle.ca_rows.proofs.BareLemmas.{not_library, scan_unexposable}
use Rattle.ca_rows.proofs.chip_rows.ChipRowsExposableDefects.is_exposable.Goals as goal

pub returns-else-is_library : goal.returns-else-is_library
returns-else-is_library c =
    scan_unexposable c.args.self.now.chip c.args.defect c.requires
    (not_library c.self.inside.chip.now c.args.self.now.chip c.args.defect.instance c.is_library.result (ap (λ (t : ChipTable). t.chip) c.self.view_is)
    c.is_library.ensures c.if-is_library.false)
    c.is_library.result c.if-is_library.false
