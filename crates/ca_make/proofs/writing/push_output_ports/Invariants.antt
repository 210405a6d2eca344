use Rattle.std.proofs.Common.{◌≡◌, ◌++◌}
use Rattle.ca_make.specs.NetlistText.{counted, output_port}
use Rattle.ca_make.proofs.writing.push_output_ports.Given as goal

abbrev pub invariant-loop-j : goal.invariant-loop-j
invariant-loop-j l = l.text ≡ l.fn.text ++ counted output_port l.j
