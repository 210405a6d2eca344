-- Lists of which each has something, and lists that are as long.
use Rattle.std.proofs.Common.{◌≡◌, ℕ, zero, suc, List, [], ◌∷◌, length, arith, refl, subst}
use Rattle.std.specs.Prelude.{slice_get, Some, None}
use Rattle.std.specs.List.{All, AllByRecursion}
use Rattle.std.proofs.lemmas.Option.{slice_get-get_or}

pub all_at : {X : Type 0} (P : X → Type 0) (xs : List X) (k : ℕ) (x : X) → AllByRecursion P xs → slice_get xs k ≡ Some x → P x
all_at P [] k x all at = absurd (let clash : None ≡ Some x = at in cc)
all_at P (y ∷ xs) zero x all at = subst P (let same : y ≡ x = cc in same) all.0
all_at P (y ∷ xs) (suc k) x all at = all_at P xs k x all.1 at

pub from_recursion : {X : Type 0} (P : X → Type 0) (xs : List X) → AllByRecursion P xs → All P xs
from_recursion P xs all k d below = all_at P xs k _ all (slice_get-get_or xs k d below)

-- a list as long as another has something where that has
pub also_there : {X Y : Type 0} (xs : List X) (ys : List Y) (k : ℕ) (y : Y) → length ys ≡ length xs → slice_get ys k ≡ Some y
    → (x : X) × (slice_get xs k ≡ Some x)
also_there [] [] k y same at = absurd (let clash : None ≡ Some y = at in cc)
also_there [] (first ∷ ys) k y same at = absurd (omega (arith, same))
also_there (x ∷ xs) [] k y same at = absurd (omega (arith, same))
also_there (x ∷ xs) (first ∷ ys) zero y same at = (x, refl)
also_there (x ∷ xs) (first ∷ ys) (suc k) y same at = also_there xs ys k y (omega (arith, same)) at
