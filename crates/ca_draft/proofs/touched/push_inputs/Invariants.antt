use Rattle.std.proofs.Common.{◌≡◌, ◌++◌}
use Rattle.std.specs.Prelude.{take}
use Rattle.ca_linked.specs.Linked.{input_nets}
use Rattle.ca_draft.proofs.touched.push_inputs.Given as goal

abbrev pub invariant-loop-pin : goal.invariant-loop-pin
invariant-loop-pin l = l.wires.items ≡ l.fn.wires.items ++ take l.pin (input_nets l.body)
