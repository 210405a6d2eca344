use Rattle.std.proofs.Common.{◌≡◌, ◌++◌}
use Rattle.ca_cell.specs.List.{each_from, pin_open}
use Rattle.ca_cell.proofs.listing.push_pin_opens.Given as goal

abbrev pub invariant-loop-before : goal.invariant-loop-before
invariant-loop-before l = l.list ≡ l.initial.list ++ each_from pin_open 0 l.before
