use Rattle.ca_flat_tests.proofs.Inverters.{inverter_is_chip_lem}
use Rattle.ca_flat_tests.proofs.laws.inverter_is_chip.Goals as goal

pub returns : goal.returns
returns c = inverter_is_chip_lem
