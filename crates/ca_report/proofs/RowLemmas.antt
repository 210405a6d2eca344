-- What all rows keep, one row after another.
use Rattle.std.proofs.Common.{◌≡◌, ℕ, ◌+◌, ◌<◌, ◌≤◌, List, [], ◌∷◌, length, take, get_or, subst, sym, refl}
use Rattle.std.proofs.Common.{arith}
use Rattle.std.specs.Prelude.{Option, Some, None, IsSomeAnd, slice_get}
use Rattle.std.specs.List.{All}
use Rattle.std.proofs.lemmas.List.{take_all, take_more}
use Rattle.std.proofs.lemmas.List.Elements.{All-get_or, All-push}
use Rattle.std.proofs.lemmas.Option.{get_or_from_slice_get, slice_get_within, slice_get-get_or}

-- what is said about the entry at a place, as an equation
pub reported : {T : Type 0} (at : Option T) (P : T → Type 0) → IsSomeAnd at P → (x : T) × (at ≡ Some x) × P x
reported None P there = absurd there
reported (Some x) P there = (x, refl, there)

-- one more keeps it
pub all_more : {T : Type 0} (P : T → Type 0) (xs : List T) (k : ℕ) → IsSomeAnd (slice_get xs k) P → All P (take k xs)
    → All P (take (k + 1) xs)
all_more {T} P xs k there before =
    let here = reported (slice_get xs k) P there in
    let is : get_or xs k here.0 ≡ here.0 = get_or_from_slice_get xs k here.0 here.0 here.1 in
    subst (All P) (sym (take_more xs k here.0 (slice_get_within xs k here.0 here.1)))
    (All-push P (take k xs) (get_or xs k here.0) before (subst P (sym is) here.2))

-- the entry at a place keeps what all keep
pub all_here : {T : Type 0} (P : T → Type 0) (xs : List T) (k : ℕ) → k < length xs → All P xs → IsSomeAnd (slice_get xs k) P
all_here P [] k below all = absurd (omega (arith, below))
all_here P (x ∷ xs) k below all =
    let here = slice_get-get_or (x ∷ xs) k x below in
    subst (λ at. IsSomeAnd at P) (sym here) (All-get_or P (x ∷ xs) k x below all)

-- all are seen
pub all_seen : {T : Type 0} (P : T → Type 0) (xs : List T) (k : ℕ) → length xs ≤ k → All P (take k xs) → All P xs
all_seen P xs k past all = subst (All P) (take_all k xs past) all
