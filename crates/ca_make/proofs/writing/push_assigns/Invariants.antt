use Rattle.std.proofs.Common.{◌≡◌, ◌++◌, take}
use Rattle.ca_make.specs.NetlistText.{listed_from, assign_line}
use Rattle.ca_make.proofs.writing.push_assigns.Given as goal

abbrev pub invariant-loop-j : goal.invariant-loop-j
invariant-loop-j l = l.text ≡ l.fn.text ++ listed_from assign_line 0 (take l.j l.outputs)
