use Rattle.std.proofs.Common.{◌≡◌, ◌++◌}
use Rattle.ca_cell.specs.List.{each_from, shorts_of}
use Rattle.ca_cell.proofs.listing.push_shorts.Given as goal

abbrev pub invariant-loop-low : goal.invariant-loop-low
invariant-loop-low l = l.list ≡ l.initial.list ++ each_from (shorts_of l.nodes l.inputs) 0 l.low
