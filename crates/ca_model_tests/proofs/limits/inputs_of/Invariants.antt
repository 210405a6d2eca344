use Rattle.std.proofs.Common.{◌≡◌, ◌≤◌, take}
use Rattle.ca_net.specs.Wave.{input_count}
use Rattle.ca_model_tests.proofs.limits.inputs_of.Given as goal

abbrev pub invariant-loop-n : goal.invariant-loop-n
invariant-loop-n l = record {
  counted : l.inputs ≡ input_count (take l.n l.net.nodes);
  most : l.inputs ≤ l.n;
}
