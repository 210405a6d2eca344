use Rattle.std.proofs.Common.{◌≡◌, map}
use Rattle.std.specs.Prelude.{take}
use Rattle.ca_chip_stil.specs.ChipStil.{signal_of}
use Rattle.ca_chip_stil.proofs.names.signals_of.Given as goal

abbrev pub invariant-loop-p : goal.invariant-loop-p
invariant-loop-p l = l.signals ≡ map signal_of (take l.p l.chip.ports)
