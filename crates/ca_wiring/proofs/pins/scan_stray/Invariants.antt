use Rattle.std.proofs.Common.{◌≡◌}
use Rattle.std.specs.Prelude.{drop}
use Rattle.ca_wiring.specs.Wiring.{ScanCell}
use Rattle.ca_wiring.specs.InstanceRules.{pin_names}
use Rattle.ca_wiring.specs.code.Pins.{first_stray}
use Rattle.ca_wiring.proofs.pins.scan_stray.Given as goal

abbrev pub invariant-loop-k : goal.invariant-loop-k
invariant-loop-k l = first_stray (pin_names (ScanCell l.row)) l.uses ≡ first_stray (pin_names (ScanCell l.row)) (drop l.k l.uses)
