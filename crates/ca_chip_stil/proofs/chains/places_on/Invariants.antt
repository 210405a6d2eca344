use Rattle.std.proofs.Common.{◌≡◌, map}
use Rattle.std.specs.Prelude.{take}
use Rattle.ca_chip_stil.specs.ChipStil.{place_of}
use Rattle.ca_chip_stil.proofs.chains.places_on.Given as goal

abbrev pub invariant-loop-k : goal.invariant-loop-k
invariant-loop-k l = l.list ≡ map (place_of l.chip) (take l.k l.chain)
