use Rattle.std.proofs.Common.{◌≡◌, ◌++◌}
use Rattle.std.specs.Prelude.{drop}
use Rattle.ca_cell.specs.Raw.{is_input}
use Rattle.ca_wiring.specs.Wiring.{input_wires, names_with}
use Rattle.ca_wiring.proofs.wires.library_inputs.Given as goal

abbrev pub invariant-loop-k : goal.invariant-loop-k
invariant-loop-k l = input_wires l.bits l.uses (names_with is_input l.pins)
    ≡ l.wires ++ input_wires l.bits l.uses (names_with is_input (drop l.k l.pins))
