-- What a function sees of a list in which an entry is read or written.
use Rattle.std.proofs.Common.{◌≡◌, ℕ, zero, suc, ◌+◌, ◌<◌, ◌≤◌, List, [], ◌∷◌, ◌∙◌, length, take, map, get_or}
use Rattle.std.proofs.Common.{refl, sym, ap, subst}
use Rattle.std.specs.Prelude.{slice_set}
use Rattle.std.specs.List.{All}
use Rattle.std.proofs.lemmas.List.{length-map, length-set, get_or-map, get_or-set_same, map-set, take_more_set, take_all}
use Rattle.std.proofs.lemmas.List.Elements.{All-push, All-get_or}

-- an entry is written of which the function sees the same
pub map_same : {X Y : Type 0} (f : X → Y) (xs : List X) (k : ℕ) (x y : X) → x ≡ get_or xs k x → f y ≡ f x
    → map f (slice_set xs k y) ≡ map f xs
map_same f [] k x y is same = refl
map_same {X} {Y} f (z ∷ xs) zero x y is same = ap (λ (seen : Y). seen ∷ map f xs) (same ∙ ap f is)
map_same {X} {Y} f (z ∷ xs) (suc k) x y is same = ap (λ (seen : List Y). f z ∷ seen) (map_same f xs k x y is same)

-- what it sees of an entry that was read
pub at_read : {X Y : Type 0} (f : X → Y) (xs : List X) (k : ℕ) (x : X) (d : Y) → k < length xs → x ≡ get_or xs k x
    → get_or (map f xs) k d ≡ f x
at_read f xs k x d within is = get_or-map f xs k x d within ∙ ap f (sym is)

-- and of one that was written
pub at_written : {X Y : Type 0} (f : X → Y) (xs : List X) (k : ℕ) (y : X) (d : Y) → k < length xs
    → get_or (map f (slice_set xs k y)) k d ≡ f y
at_written f xs k y d within =
    get_or-map f (slice_set xs k y) k y d (subst (λ (n : ℕ). k < n) (sym (length-set xs k y)) within)
    ∙ ap f (get_or-set_same xs k y y within)

-- it sees one value of the first entries, and so of one more
pub firsts_more : {X Y : Type 0} (f : X → Y) (xs : List X) (k : ℕ) (y : X) (v : Y) → k < length xs → f y ≡ v
    → All (λ (seen : Y). seen ≡ v) (take k (map f xs)) → All (λ (seen : Y). seen ≡ v) (take (k + 1) (map f (slice_set xs k y)))
firsts_more {X} {Y} f xs k y v within is all =
    let P : Y → Type 0 = λ seen. seen ≡ v in
    subst (All P) (sym (ap (λ (seen : List Y). take (k + 1) seen) (map-set f xs k y)
    ∙ take_more_set (map f xs) k (f y) (subst (λ (n : ℕ). k < n) (sym (length-map xs f)) within)))
    (All-push P (take k (map f xs)) (f y) all is)

-- and of all
pub firsts_all : {Y : Type 0} (P : Y → Type 0) (ys : List Y) (k : ℕ) → length ys ≤ k → All P (take k ys) → All P ys
firsts_all P ys k past all = subst (All P) (take_all k ys past) all

-- what is so of all that it sees, is so of what it sees of an entry that was read
pub at_each : {X Y : Type 0} (P : Y → Type 0) (f : X → Y) (xs : List X) (k : ℕ) (x : X) → k < length xs → x ≡ get_or xs k x
    → All P (map f xs) → P (f x)
at_each P f xs k x within is all =
    subst P (at_read f xs k x (f x) within is)
    (All-get_or P (map f xs) k (f x) (subst (λ (n : ℕ). k < n) (sym (length-map xs f)) within) all)
