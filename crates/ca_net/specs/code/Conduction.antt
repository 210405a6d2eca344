-- Words of the code beside those of `specs/Conduction.antt`. Private functions and proofs cite them.
use Rattle.std.specs.Prelude.{List}
use Rattle.ca_net.specs.declared.trit.Trit.{Trit}
use Rattle.ca_net.specs.declared.device.Device.{Device}
use Rattle.ca_net.specs.Conduction.{Conducts, IsOpen}

-- the device neither conducts nor is open in the state: its gate is X
pub record IsUnknown (s : List Trit) (d : Device) : Type 0 where
  pub not_conducting : ¬ (Conducts s d)
  pub not_open : ¬ (IsOpen s d)
