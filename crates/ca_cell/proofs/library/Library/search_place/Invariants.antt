use Rattle.std.proofs.Common.{◌≡◌, drop}
use Rattle.ca_cell.specs.Library.{entry_of}
use Rattle.ca_lex.specs.Words.{upper_case}
use Rattle.ca_cell.proofs.library.Library.search_place.Given as goal

abbrev pub invariant-loop-i : goal.invariant-loop-i
invariant-loop-i l = entry_of (drop l.i l.self) (upper_case l.name) ≡ entry_of l.self (upper_case l.name)
