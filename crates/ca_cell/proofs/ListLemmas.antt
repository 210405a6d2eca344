-- A list that grows at its end, by the place of an entry.
use Rattle.std.proofs.Common.{◌≡◌, ℕ, zero, suc, ◌+◌, ◌≤◌, List, [], ◌∷◌, ◌++◌, length, refl, sym, ◌∙◌, ap}
use Rattle.std.proofs.Common.{subst, arith, length-append, append-nil}
use Rattle.std.specs.Prelude.{Option, Some, None, option_to_list, slice_get}
use Rattle.std.proofs.lemmas.Option.{none-some}

-- an entry stays at its place
pub slice_get-append_left : {T : Type 0} (xs ys : List T) (place : ℕ) (x : T) → slice_get xs place ≡ Some x → slice_get (xs ++ ys) place ≡ Some x
slice_get-append_left [] ys place x there = absurd (none-some x there)
slice_get-append_left (first ∷ xs) ys zero x there = there
slice_get-append_left (first ∷ xs) ys (suc place) x there = slice_get-append_left xs ys place x there

-- a new entry is after all others
pub slice_get-append_end : {T : Type 0} (xs : List T) (x : T) (place : ℕ) → place ≡ length xs → slice_get (xs ++ x ∷ []) place ≡ Some x
slice_get-append_end [] x place is = subst (λ at. slice_get (x ∷ []) at ≡ Some x) (sym is) refl
slice_get-append_end (first ∷ xs) x zero is = absurd (omega arith)
slice_get-append_end (first ∷ xs) x (suc place) is = slice_get-append_end xs x place (omega arith)

-- where there is one more, the list is longer by it
pub length-append_some : {T : Type 0} (xs : List T) (more : Option T) (x : T) → more ≡ Some x → length (xs ++ option_to_list more) ≡ length xs + 1
length-append_some xs more x is = ap (λ o. length (xs ++ option_to_list o)) is ∙ length-append xs (x ∷ [])

pub length-append_none : {T : Type 0} (xs : List T) (more : Option T) → more ≡ None → length (xs ++ option_to_list more) ≡ length xs
length-append_none xs more is = ap (λ o. length (xs ++ option_to_list o)) is ∙ ap length (append-nil xs)

-- at most one more
pub length-append_option : {T : Type 0} (xs : List T) (more : Option T) → length (xs ++ option_to_list more) ≤ length xs + 1
length-append_option xs None = let same = length-append_none xs None refl in omega arith
length-append_option xs (Some x) = let longer = length-append_some xs (Some x) x refl in omega arith
