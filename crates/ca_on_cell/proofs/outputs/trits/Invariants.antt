use Rattle.std.proofs.Common.{◌≡◌, map, take}
use Rattle.ca_on_cell.specs.Outputs.{trit_of}
use Rattle.ca_on_cell.proofs.outputs.trits.Given as goal

abbrev pub invariant-loop-letter : goal.invariant-loop-letter
invariant-loop-letter l = l.values.items ≡ map trit_of (take l.letter-index l.letters)
