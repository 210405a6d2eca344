use Rattle.std.proofs.Common.{◌≡◌, ◌++◌}
use Rattle.std.specs.Prelude.{take}
use Rattle.ca_linked.specs.Linked.{output_nets}
use Rattle.ca_draft.proofs.touched.push_outputs.Given as goal

abbrev pub invariant-loop-pin : goal.invariant-loop-pin
invariant-loop-pin l = l.wires.items ≡ l.fn.wires.items ++ take l.pin (output_nets l.body)
