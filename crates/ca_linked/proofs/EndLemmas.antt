-- The nets of the first port bits or instances, with the next.
use Rattle.std.proofs.Common.{◌≡◌, ℕ, zero, suc, ◌+◌, List, [], ◌∷◌, ◌++◌, ◌∙◌, ap, arith}
use Rattle.std.specs.Prelude.{Some, slice_get, take, drop}
use Rattle.std.specs.List.{flat_map}
use Rattle.std.proofs.lemmas.List.{append-nil}
use Rattle.std.proofs.lemmas.Grind.{flat_map-append}
use Rattle.std.proofs.lemmas.Option.{slice_get_within}

-- the first of a list, with the next
pub take_more : {X : Type 0} (xs : List X) (k : ℕ) (x : X) → slice_get xs k ≡ Some x → take (k + 1) xs ≡ take k xs ++ x ∷ []
take_more [] k x at = absurd (let lt = slice_get_within [] k x at in omega (arith, lt))
take_more (first ∷ xs) zero x at = let same : first ≡ x = cc in ap (λ y. y ∷ []) same
take_more (first ∷ xs) (suc k) x at =
    ap (λ n. take n (first ∷ xs)) (let s : suc k + 1 ≡ suc (k + 1) = omega arith in s) ∙ ap (λ l. first ∷ l) (take_more xs k x at)

pub flat_more : {X : Type 0} (f : X → List ℕ) (xs : List X) (k : ℕ) (x : X) → slice_get xs k ≡ Some x
    → flat_map f (take (k + 1) xs) ≡ flat_map f (take k xs) ++ f x
flat_more f xs k x at =
    ap (flat_map f) (take_more xs k x at) ∙ flat_map-append f (take k xs) (x ∷ [])
    ∙ ap (λ l. flat_map f (take k xs) ++ l) (append-nil (f x))

-- what there is from a place on
pub drop_at : {X : Type 0} (xs : List X) (k : ℕ) (x : X) → slice_get xs k ≡ Some x → drop k xs ≡ x ∷ drop (k + 1) xs
drop_at [] k x at = absurd (let lt = slice_get_within [] k x at in omega (arith, lt))
drop_at (first ∷ xs) zero x at = let same : first ≡ x = cc in ap (λ y. y ∷ xs) same
drop_at (first ∷ xs) (suc k) x at =
    drop_at xs k x at ∙ ap (λ n. x ∷ drop n (first ∷ xs)) (let s : suc (k + 1) ≡ suc k + 1 = omega arith in s)
