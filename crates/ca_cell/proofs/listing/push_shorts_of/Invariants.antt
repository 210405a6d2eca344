use Rattle.std.proofs.Common.{◌≡◌, ◌++◌}
use Rattle.ca_cell.specs.List.{each_from, short_of}
use Rattle.ca_cell.proofs.listing.push_shorts_of.Given as goal

abbrev pub invariant-loop-high : goal.invariant-loop-high
invariant-loop-high l = l.list ≡ l.initial.list ++ each_from (short_of l.inputs l.low) 0 l.high
