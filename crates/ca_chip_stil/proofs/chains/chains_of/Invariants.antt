use Rattle.std.proofs.Common.{◌≡◌, map}
use Rattle.std.specs.Prelude.{take}
use Rattle.ca_chip_stil.specs.ChipStil.{chain_of}
use Rattle.ca_chip_stil.proofs.chains.chains_of.Given as goal

abbrev pub invariant-loop-k : goal.invariant-loop-k
invariant-loop-k l = l.list ≡ map (chain_of l.chip) (take l.k l.chains)
