use Rattle.std.proofs.Common.{◌≡◌}
use Rattle.std.specs.Prelude.{drop}
use Rattle.ca_wiring.specs.Wiring.{Library}
use Rattle.ca_wiring.specs.InstanceRules.{pin_names}
use Rattle.ca_wiring.specs.code.Pins.{first_stray}
use Rattle.ca_wiring.proofs.pins.library_stray.Given as goal

abbrev pub invariant-loop-k : goal.invariant-loop-k
invariant-loop-k l = first_stray (pin_names (Library l.raw)) l.uses ≡ first_stray (pin_names (Library l.raw)) (drop l.k l.uses)
