use Rattle.std.proofs.Common.{◌≡◌}
use Rattle.std.specs.Prelude.{drop}
use Rattle.ca_cell.specs.Raw.{is_input}
use Rattle.ca_wiring.specs.Wiring.{names_with}
use Rattle.ca_wiring.specs.code.Pins.{first_open}
use Rattle.ca_wiring.proofs.pins.first_open_input.Given as goal

abbrev pub invariant-loop-k : goal.invariant-loop-k
invariant-loop-k l = first_open l.uses (names_with is_input l.pins) ≡ first_open l.uses (names_with is_input (drop l.k l.pins))
