use Rattle.std.proofs.Common.{◌≡◌, ◌++◌, ◌≤◌, length, take}
use Rattle.ca_stil.specs.Chip.{part}
use Rattle.ca_stil.specs.Words.{cell_bits}
use Rattle.ca_stil.proofs.shift.push_bits.Given as goal

abbrev pub invariant-places : goal.invariant-places
invariant-places g l = record {
  within : l.left ≤ length l.places;
  written : l.text ++ cell_bits (part l.from l.count (g.P.PatternBits.bits l.pair)) (take l.left l.places)
      ≡ l.fn.text ++ cell_bits (part l.from l.count (g.P.PatternBits.bits l.pair)) l.places;
}

abbrev pub decreases-places : goal.decreases-places
decreases-places g l = l.left
