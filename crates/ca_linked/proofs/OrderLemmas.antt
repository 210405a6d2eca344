-- Where there is an order, there is no loop.
use Rattle.std.proofs.Common.{◌≡◌, ℕ, zero, suc, ◌+◌, ◌<◌, ◌≤◌, ◌⊎◌, inl, inr, List, [], ◌∷◌, ◌++◌, length}
use Rattle.std.proofs.Common.{sym, ◌∙◌, ap, subst, arith}
use Rattle.std.specs.Prelude.{Some, slice_get}
use Rattle.std.specs.List.{All, Contains}
use Rattle.std.proofs.lemmas.List.{append-nil}
use Rattle.std.proofs.lemmas.List.Elements.{All-tail}
use Rattle.std.proofs.lemmas.Option.{slice_get_within, slice_get-get_or, get_or_from_slice_get}
use Rattle.ca_linked.specs.Order.{IsChain, IsLoop, IsOnce, HasNoLoop, IsOrder}

-- what a list contains is at a place
pub place_of : (xs : List ℕ) (x : ℕ) (has : Contains xs x) → slice_get xs has.0 ≡ Some x
place_of xs x has = slice_get-get_or xs has.0 x has.1 ∙ ap Some has.2

pub contained_at : (xs : List ℕ) (k x : ℕ) → slice_get xs k ≡ Some x → Contains xs x
contained_at xs k x e = (k, slice_get_within xs k x e, get_or_from_slice_get xs k x x e)

module _ (Feeds : ℕ → ℕ → Type 0) (Has : ℕ → Type 0) (order : List ℕ) (is : IsOrder Feeds Has order) where
  -- what a chain begins with is before its end
  pub chain_falls : (more : List ℕ) (u to k : ℕ) → slice_get order k ≡ Some to → IsChain Feeds u more to
      → (j : ℕ) × (j < k) × (slice_get order j ≡ Some u)
  chain_falls [] u to k at chain = is.after k to u at chain
  chain_falls (w ∷ more) u to k at chain =
      let later = chain_falls more w to k at chain.1 in
      let first = is.after later.0 w u later.2 chain.0 in
      let less : first.0 < k = let a = later.1 in let b = first.1 in omega arith in
      (first.0, less, first.2)

  -- a chain in the order doesn't return
  pub no_return : (more : List ℕ) (u : ℕ) → Has u → IsChain Feeds u more u → ⊥
  no_return more u has chain =
      let here = (is.has u).1 has in
      let at = place_of order u here in
      let before = chain_falls more u u here.0 at chain in
      let same : before.0 ≡ here.0 = is.once before.0 here.0 u before.2 at in
      let less : before.0 < here.0 = before.1 in
      omega arith

  pub no_loop : ((w u : ℕ) → Feeds w u → Has w) → HasNoLoop Feeds
  no_loop feeds_has u [] loop = no_return [] u (feeds_has u u loop) loop
  no_loop feeds_has u (w ∷ more) loop = no_return (w ∷ more) u (feeds_has u w loop.0) loop

module _ (Feeds : ℕ → ℕ → Type 0) where
  -- one chain after another
  pub chain_then : (xs : List ℕ) (u w : ℕ) (ys : List ℕ) (to : ℕ) → IsChain Feeds u xs w → IsChain Feeds w ys to → IsChain Feeds u (xs ++ w ∷ ys) to
  chain_then [] u w ys to first second = (first, second)
  chain_then (x ∷ xs) u w ys to first second = (first.0, chain_then xs x w ys to first.1 second)

  -- a chain parts at each of its members
  pub chain_parts : (xs : List ℕ) (u w : ℕ) (ys : List ℕ) (to : ℕ) → IsChain Feeds u (xs ++ w ∷ ys) to → IsChain Feeds u xs w × IsChain Feeds w ys to
  chain_parts [] u w ys to chain = chain
  chain_parts (x ∷ xs) u w ys to chain = let rest = chain_parts xs x w ys to chain.1 in ((chain.0, rest.0), rest.1)

  -- the list is a chain from its first back to its first
  abbrev pub Returns : List ℕ → Type 0
  Returns [] = ⊥
  Returns (u ∷ more) = IsChain Feeds u more u

  -- it may begin at any of its members
  pub turned : (xs ys : List ℕ) → 0 < length ys → Returns (xs ++ ys) → Returns (ys ++ xs)
  turned xs [] some loop = absurd (omega (arith, some))
  turned [] (w ∷ ys) some loop = subst Returns (sym (append-nil (w ∷ ys))) loop
  turned (u ∷ xs) (w ∷ ys) some loop =
      let parts = chain_parts xs u w ys u loop in
      chain_then ys w u xs w parts.1 parts.0

  pub loop_of : (loop : List ℕ) (u : ℕ) → Returns loop → slice_get loop 0 ≡ Some u → All (λ w. u ≤ w) loop → IsLoop Feeds loop
  loop_of [] u loop first lowest = loop
  loop_of (w ∷ more) u loop first lowest =
      let same : u ≡ w = cc in
      (loop, subst (λ x. All (λ y. x ≤ y) more) same (All-tail (λ y. u ≤ y) w more lowest))

-- where a member of one list is in both
in_left : (xs ys : List ℕ) (k u : ℕ) → slice_get xs k ≡ Some u → slice_get (xs ++ ys) k ≡ Some u
in_left [] ys k u at = absurd cc
in_left (x ∷ xs) ys zero u at = at
in_left (x ∷ xs) ys (suc k) u at = in_left xs ys k u at

in_right : (xs ys : List ℕ) (k u : ℕ) → slice_get ys k ≡ Some u → slice_get (xs ++ ys) (length xs + k) ≡ Some u
in_right [] ys k u at = subst (λ n. slice_get ys n ≡ Some u) (let e : k ≡ 0 + k = omega arith in e) at
in_right (x ∷ xs) ys k u at =
    subst (λ n. slice_get (x ∷ xs ++ ys) n ≡ Some u) (let e : suc (length xs + k) ≡ suc (length xs) + k = omega arith in e) (in_right xs ys k u at)

in_either : (xs ys : List ℕ) (j u : ℕ) → slice_get (xs ++ ys) j ≡ Some u
    → (slice_get xs j ≡ Some u) ⊎ ((k : ℕ) × (j ≡ length xs + k) × (slice_get ys k ≡ Some u))
in_either [] ys j u at = inr (j, omega arith, at)
in_either (x ∷ xs) ys zero u at = inl at
in_either (x ∷ xs) ys (suc j) u at = elim (in_either xs ys j u at) [
  | inl left ↦ inl left
  | inr (k, place, right) ↦ inr (k, omega (arith, place), right)
]

-- two lists that have each number once have it once in the other order
pub swapped_once : (xs ys : List ℕ) → IsOnce (xs ++ ys) → IsOnce (ys ++ xs)
swapped_once xs ys once j k u first second = by (in_either ys xs j u first) (in_either ys xs k u second)
  where
    by : (slice_get ys j ≡ Some u) ⊎ ((m : ℕ) × (j ≡ length ys + m) × (slice_get xs m ≡ Some u))
        → (slice_get ys k ≡ Some u) ⊎ ((n : ℕ) × (k ≡ length ys + n) × (slice_get xs n ≡ Some u)) → j ≡ k
    by (inl left) (inl left_too) =
        let same = once (length xs + j) (length xs + k) u (in_right xs ys j u left) (in_right xs ys k u left_too) in
        omega (arith, same)
    by (inl left) (inr (n, place, right)) =
        let same = once (length xs + j) n u (in_right xs ys j u left) (in_left xs ys n u right) in
        let lt = slice_get_within xs n u right in
        absurd (omega (arith, same, lt))
    by (inr (m, place, right)) (inl left) =
        let same = once m (length xs + k) u (in_left xs ys m u right) (in_right xs ys k u left) in
        let lt = slice_get_within xs m u right in
        absurd (omega (arith, same, lt))
    by (inr (m, place, right)) (inr (n, place_too, right_too)) =
        let same = once m n u (in_left xs ys m u right) (in_left xs ys n u right_too) in
        omega (arith, place, place_too, same)
