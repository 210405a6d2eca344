use Rattle.std.proofs.Common.{◌≡◌, ◌++◌}
use Rattle.ca_make.specs.NetlistText.{counted, declaration_line}
use Rattle.ca_make.proofs.writing.push_declarations.Given as goal

abbrev pub invariant-loop-number : goal.invariant-loop-number
invariant-loop-number l = l.text ≡ l.fn.text ++ counted (declaration_line l.letters) l.number
