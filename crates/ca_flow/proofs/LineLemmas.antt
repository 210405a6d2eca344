-- Two lines that are appended one after the other.
use Rattle.std.proofs.Common.{ℕ, ◌≡◌, ◌∙◌, ap, subst, List, ◌++◌, Option, Result, Ok, Err}
use Rattle.std.specs.Prelude.{OnErr}
use Rattle.ca_store.specs.Store.{Rose, appended, AppendsPart}
use Rattle.ca_store.proofs.Appends.{appended_twice, part_of_first, part_of_second}

module _ (line place : List ℕ) (old mid new : Option (List ℕ)) where
  pub both_lines : mid ≡ appended line old → new ≡ appended place mid → new ≡ appended (line ++ place) old
  both_lines first second = second ∙ ap (appended place) first ∙ appended_twice old line place

  pub part_of_place : mid ≡ appended line old → AppendsPart place mid new → AppendsPart (line ++ place) old new
  part_of_place first part = part_of_second line place old mid new first part

pub part_of_line : (line place : List ℕ) (old new : Option (List ℕ)) → AppendsPart line old new → AppendsPart (line ++ place) old new
part_of_line line place old new part = part_of_first line place old new part

pub rose_later : (old mid new : ℕ) → mid ≡ old → Rose mid new → Rose old new
rose_later old mid new quiet rose = subst (λ (count : ℕ). Rose count new) quiet rose

-- what is said of an answer of Err follows from what is said of it elsewhere
pub on_err_from : {T E : Type 0} (r : Result T E) (P Q : Type 0) → (P → Q) → OnErr r P → OnErr r Q
on_err_from (Ok value) P Q next said = said
on_err_from (Err error) P Q next said = next said
