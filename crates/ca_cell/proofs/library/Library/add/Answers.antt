use Rattle.std.proofs.Common.{◌≡◌, List, ℕ, sym, subst}
use Rattle.ca_lex.specs.Words.{upper_case}
use Rattle.ca_cell.proofs.LibraryLemmas.{upper_case-upper_case}
use Rattle.ca_cell.proofs.library.Library.add.Goals as goal

pub insert-requires-clause-upper : goal.insert-requires-clause-upper
insert-requires-clause-upper c =
    let kept : c.in_ok-key.key.items ≡ upper_case c.as_bytes.result.now = c.in_ok-key.ensures.ok in
    subst (λ (name : List ℕ). upper_case name ≡ name) (sym kept) (upper_case-upper_case c.as_bytes.result.now)
