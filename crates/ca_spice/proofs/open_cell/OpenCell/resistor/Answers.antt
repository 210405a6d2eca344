use Rattle.std.proofs.Common.{◌∙◌, sym}
use Rattle.ca_spice.specs.code.Names.{texts}
use Rattle.ca_spice.specs.code.Views.{cell_seen, wiring_seen, sizes_seen}
use Rattle.ca_spice.proofs.ReadingLemmas.{resistor-double, resistor-grown}
use Rattle.ca_spice.proofs.open_cell.OpenCell.resistor.Goals as goal

pub returns-then-has_device-clause-read : goal.returns-then-has_device-clause-read
returns-then-has_device-clause-read c =
    resistor-double c.args.table.now c.args.name.now (texts c.args.words.now) (cell_seen c.args.self) (wiring_seen c.in-Some.wiring)
    (sym c.in-Some.ensures.wiring) (sym c.has_device.ensures ∙ c.if-has_device.true)

pub with_device-requires-clause-gate : goal.with_device-requires-clause-gate
with_device-requires-clause-gate c = λ gateless. c.in-Some.ensures.gate

pub returns-clause-read : goal.returns-clause-read
returns-clause-read c =
    resistor-grown c.args.table.now c.args.name.now (texts c.args.words.now) (cell_seen c.args.self) (cell_seen c.in_ok-with_device.field-0) (wiring_seen c.in-Some.wiring)
    (sizes_seen c.resistor_sizes.result) (sym c.in-Some.ensures.wiring) (sym c.has_device.ensures ∙ c.if-has_device.false) c.resistor_sizes.ensures.sizes
    c.in_ok-with_device.ensures
