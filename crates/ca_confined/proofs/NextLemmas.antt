-- The next place that is in two sets, word by word.
use Rattle.std.proofs.Common.{◌≡◌, ◌↔◌, ℕ, ◌+◌, ◌-◌, ◌<◌, ◌≤◌, inl, inr, ◌∙◌, ap, arith, subst, bit_and}
use Rattle.std.specs.Int.{bit_at}
use Rattle.std.proofs.lemmas.Bool.{cases_lt}
use Rattle.std.proofs.lemmas.Nat.Bits.{bit_at-lt, bit_at-zero, bit_at_and}
use Rattle.ca_places.specs.declared.place_set.PlaceSet.{PlaceSet}
use Rattle.ca_places.specs.PlaceSet.{Has}
use Rattle.ca_confined.specs.code.Next.{NoneInBoth}

-- a bit that both words have
both_of : (a b k : ℕ) → bit_at (bit_and a b) k ≡ 1 → (bit_at a k ≡ 1) × (bit_at b k ≡ 1)
both_of a b k one =
    let m = bit_at_and a b k in
    let x = bit_at-lt a k in
    let y = bit_at-lt b k in
    (omega arith, omega arith)

of_both : (a b k : ℕ) → bit_at a k ≡ 1 → bit_at b k ≡ 1 → bit_at (bit_and a b) k ≡ 1
of_both a b k one other = let m = bit_at_and a b k in omega arith

-- bit k of the word says whether the set has the place k past this one
abbrev pub IsWindow : PlaceSet → ℕ → ℕ → Type 0
IsWindow set place word = (k : ℕ) → k < 64 → (bit_at word k ≡ 1) ↔ Has set (place + k)

module _ (set other : PlaceSet) (from place a b : ℕ) (here : IsWindow set place a) (there : IsWindow other place b) (low : from ≤ place)
    (before : NoneInBoth set other from place) where
  -- no place before one on, where the words have no bit together so far
  none_to : (end : ℕ) → end ≤ 64 → ((k : ℕ) → k < end → bit_at (bit_and a b) k ≡ 1 → ⊥) → NoneInBoth set other from (place + end)
  none_to end few none p above below has also = elim (cases_lt p place) [
    | inl less ↦ before p above less has also
    | inr past ↦
        let e : p ≡ place + (p - place) = omega arith in
        let k : p - place < end = omega arith in
        none (p - place) k (of_both a b (p - place) ((here (p - place) (omega arith)).1 (subst (Has set) e has)) ((there (p - place) (omega arith)).1 (subst (Has other) e also)))
  ]

  pub found_here : (bit : ℕ) → bit < 64 → bit_at (bit_and a b) bit ≡ 1 → ((i : ℕ) → i < bit → bit_at (bit_and a b) i ≡ 0)
      → (from ≤ place + bit) × Has set (place + bit) × Has other (place + bit) × NoneInBoth set other from (place + bit)
  found_here bit lt one clear =
      let both = both_of a b bit one in
      (omega arith, (here bit lt).0 both.0, (there bit lt).0 both.1, none_to bit (omega arith) (λ k less is. let z = clear k less in absurd (omega arith)))

  pub none_here : bit_and a b ≡ 0 → NoneInBoth set other from (place + 64)
  none_here e = none_to 64 (omega arith) (λ k less is.
      let z : bit_at (bit_and a b) k ≡ 0 = ap (λ w. bit_at w k) e ∙ bit_at-zero k in absurd (omega arith))
