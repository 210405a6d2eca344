use Rattle.ca_wiring.proofs.SameLemmas.{same_drivers, same_first_two}
use Rattle.ca_wiring.proofs.laws.drivers_are_the_wirings.Goals as goal

pub returns-clause-drivers : goal.returns-clause-drivers
returns-clause-drivers c = same_drivers

pub returns-clause-first : goal.returns-clause-first
returns-clause-first c = same_first_two
