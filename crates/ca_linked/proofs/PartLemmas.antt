-- What holds of all of a list holds at each place of it, and what a list has it contains.
use Rattle.std.proofs.Common.{◌≡◌, ℕ, List, true, refl, sym, subst, get_or}
use Rattle.std.specs.Prelude.{eqb, slice_get, Some}
use Rattle.std.specs.List.{All, Contains}
use Rattle.std.proofs.lemmas.Bool.{eqb-true, eq-eqb}
use Rattle.std.proofs.lemmas.List.Folds.{Any-from_list_any, list_any-from_Any}
use Rattle.std.proofs.lemmas.Option.{slice_get_within, get_or_from_slice_get}
use Rattle.ca_linked.specs.Linked.{has}

-- what a list has, it contains
pub has_contains : (xs : List ℕ) (n : ℕ) → has xs n ≡ true → Contains xs n
has_contains xs n h =
    let at = Any-from_list_any (eqb n) xs h in
    (at.0, at.2, subst (λ x. get_or xs at.0 x ≡ x) (sym (eqb-true n at.1 at.4)) at.3)

pub contains_has : (xs : List ℕ) (n : ℕ) → Contains xs n → has xs n ≡ true
contains_has xs n h = list_any-from_Any (eqb n) xs (h.0, n, h.1, h.2, eq-eqb n n refl)

-- what holds of all holds of the one at a place
pub of_all : {X : Type 0} (P : X → Type 0) (parts : List X) (u : ℕ) (part : X) → All P parts → slice_get parts u ≡ Some part → P part
of_all P parts u part all at = subst P (get_or_from_slice_get parts u part part at) (all u part (slice_get_within parts u part at))

-- what holds of all holds of each that the list contains
pub of_list : (P : ℕ → Type 0) (xs : List ℕ) (x : ℕ) → All P xs → Contains xs x → P x
of_list P xs x all has = subst P has.2 (all has.0 x has.1)
