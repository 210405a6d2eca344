use Rattle.std.proofs.Common.{sym}
use Rattle.ca_spice.proofs.CellLemmas.{known_device}
use Rattle.ca_spice.proofs.open_cell.OpenCell.has_device.Goals as goal

pub returns : goal.returns
returns c = sym (known_device c.args.name.now c.args.self.now.device_names c.args.self.now.devices c.has.result c.args.self.now.named c.has.ensures)
