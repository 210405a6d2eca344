use Rattle.std.proofs.Common.{◌≡◌}
use Rattle.std.specs.Prelude.{take}
use Rattle.std.specs.List.{flat_map}
use Rattle.ca_chip_stil.specs.Sites.{if_data_port}
use Rattle.ca_chip_stil.specs.ChipStil.{names_of}
use Rattle.ca_chip_stil.proofs.names.data_names.Given as goal

abbrev pub invariant-loop-p : goal.invariant-loop-p
invariant-loop-p l = l.names ≡ names_of (flat_map (if_data_port l.chip l.input) (take l.p l.chip.ports))
