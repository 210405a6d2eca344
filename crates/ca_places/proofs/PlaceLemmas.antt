-- Bits in lists of words.
use Rattle.std.proofs.Common.{◌≡◌, ◌≢◌, ℕ, ◌+◌, ◌*◌, ◌-◌, ◌/◌, ◌%◌, ◌^◌, ◌<◌, ◌≤◌, ◌↔◌, List, length, inl}
use Rattle.std.proofs.Common.{inr, refl, sym, ◌∙◌, ap, arith, get_or, slice_set}
use Rattle.std.specs.Int.{bit_at, trailing_zeros}
use Rattle.std.proofs.Common.{w64, bit_and, min}
use Rattle.std.proofs.lemmas.Bool.{cases_eq, cases_lt}
use Rattle.std.proofs.lemmas.Nat.{and_le_l}
use Rattle.std.proofs.lemmas.List.{get_or-set_same, get_or-set_other, get_or_past}
use Rattle.std.proofs.lemmas.Nat.Bits.{bit_at-lt, bit_at-zero, bit_at_and, bit_at_mask_inside}
use Rattle.std.proofs.lemmas.Nat.Bits.{bit_at_mask_below, ones_shl, bit_at-trailing_zeros}
use Rattle.ca_places.specs.PlaceSet.{HasBit, HoldsUpTo, IsAsRoomy}
use Rattle.ca_places.specs.declared.place_set.PlaceSet.{PlaceSet}

-- a set holds as many places as one that is as roomy
pub holds_as : (old new : PlaceSet) → IsAsRoomy new old → (count : ℕ) → HoldsUpTo old count → HoldsUpTo new count
holds_as old new same count holds = omega arith

pub bit_here : (words : List ℕ) (place word : ℕ) → place / 64 < length words → bit_at word (place % 64) ≡ 1 → HasBit (slice_set words (place / 64) word) place
bit_here words place word within set = ap (λ w. bit_at w (place % 64)) (get_or-set_same words (place / 64) word 0 within) ∙ set

pub no_bit_here : (words : List ℕ) (place word : ℕ) → place / 64 < length words → bit_at word (place % 64) ≡ 0 → HasBit (slice_set words (place / 64) word) place → ⊥
no_bit_here words place word within clear has = let is = ap (λ w. bit_at w (place % 64)) (get_or-set_same words (place / 64) word 0 within) in
    absurd (let e : 0 ≡ 1 = sym clear ∙ sym is ∙ has in omega arith)

-- a word that differs in one bit
pub bit_elsewhere : (words : List ℕ) (place word : ℕ) → place / 64 < length words
    → ((i : ℕ) → i < 64 → i ≢ place % 64 → bit_at word i ≡ bit_at (get_or words (place / 64) 0) i)
    → (other : ℕ) → other ≢ place → HasBit (slice_set words (place / 64) word) other ↔ HasBit words other
bit_elsewhere words place word within same other apart =
    let is : bit_at (get_or (slice_set words (place / 64) word) (other / 64) 0) (other % 64) ≡ bit_at (get_or words (other / 64) 0) (other % 64) =
    elim (cases_eq (other / 64) (place / 64)) [
      | inr e ↦ ap (λ w. bit_at w (other % 64)) (get_or-set_other words (place / 64) (other / 64) word 0 e)
      | inl e ↦
          let here : get_or (slice_set words (place / 64) word) (other / 64) 0 ≡ word = ap (λ k. get_or (slice_set words (place / 64) word) k 0) e ∙ get_or-set_same words (place / 64) word 0 within in
          ap (λ w. bit_at w (other % 64)) here
          ∙ same (other % 64) (omega arith) (λ k. apart (omega arith))
          ∙ ap (λ k. bit_at (get_or words k 0) (other % 64)) (sym e)
    ] in
    ((λ h. sym is ∙ h), (λ h. is ∙ h))

-- no place from one on and before another is in the words
abbrev pub NoneBetween : List ℕ → ℕ → ℕ → Type 0
NoneBetween words from end = (place : ℕ) → from ≤ place → place < end → HasBit words place → ⊥

no_one : (b : ℕ) → b ≡ 0 → b ≡ 1 → ⊥
no_one b zero_is one_is = absurd (omega arith)

-- the places of a word whose bits are clear aren't in the words
pub none_in_word : (words : List ℕ) (from word : ℕ) → ((i : ℕ) → i < 64 → from ≤ 64 * word + i → bit_at (get_or words word 0) i ≡ 0)
    → NoneBetween words from (64 * word) → NoneBetween words from (64 * (word + 1))
none_in_word words from word clear before place low high has = elim (cases_lt place (64 * word)) [
  | inl less ↦ before place low less has
  | inr here ↦
      let e : place / 64 ≡ word = omega arith in
      no_one (bit_at (get_or words word 0) (place % 64)) (clear (place % 64) (omega arith) (omega arith)) (ap (λ k. bit_at (get_or words k 0) (place % 64)) (sym e) ∙ has)
]

-- the first place is that of a word's lowest bit from the first on
pub found_in_word : (words : List ℕ) (from word bit : ℕ) → bit < 64 → from ≤ 64 * word + bit → bit_at (get_or words word 0) bit ≡ 1
    → ((i : ℕ) → i < bit → from ≤ 64 * word + i → bit_at (get_or words word 0) i ≡ 0) → NoneBetween words from (64 * word)
    → HasBit words (64 * word + bit) × NoneBetween words from (64 * word + bit)
found_in_word words from word bit within low set clear before =
    let e : (64 * word + bit) / 64 ≡ word = omega arith in
    let r : (64 * word + bit) % 64 ≡ bit = omega arith in (
      ap (λ k. bit_at (get_or words k 0) ((64 * word + bit) % 64)) e ∙ ap (bit_at (get_or words word 0)) r ∙ set,
      λ place above below has. elim (cases_lt place (64 * word)) [
        | inl less ↦ before place above less has
        | inr here ↦
            let w : place / 64 ≡ word = omega arith in
            no_one (bit_at (get_or words word 0) (place % 64)) (clear (place % 64) (omega arith) (omega arith)) (ap (λ k. bit_at (get_or words k 0) (place % 64)) (sym w) ∙ has)
      ],
    )

-- past the words is no place
pub none_past : (words : List ℕ) (from : ℕ) → NoneBetween words from (64 * length words) → (place : ℕ) → from ≤ place → HasBit words place → ⊥
none_past words from before place low has = elim (cases_lt place (64 * length words)) [
  | inl less ↦ before place low less has
  | inr past ↦ no_one 0 refl (sym (bit_at-zero (place % 64)) ∙ ap (λ w. bit_at w (place % 64)) (sym (get_or_past words (place / 64) 0 (omega arith))) ∙ has)
]

module _ (word start : ℕ) (fits : word < 2 ^ 64) (start_within : start < 64) where
  -- the word without its bits below the start
  abbrev pub rest : ℕ
  rest = bit_and word ((2 ^ 64 - 1) * 2 ^ start % 2 ^ 64)

  rest_bit : (i : ℕ) → bit_at rest i ≡ min (bit_at word i) (bit_at (2 ^ 64 - 2 ^ start) i)
  rest_bit i = bit_at_and word ((2 ^ 64 - 1) * 2 ^ start % 2 ^ 64) i ∙ ap (λ m. min (bit_at word i) (bit_at m i)) (ones_shl 64 start (omega arith))

  rest_at : (i : ℕ) → start ≤ i → i < 64 → bit_at rest i ≡ bit_at word i
  rest_at i low high = rest_bit i ∙ ap (min (bit_at word i)) (bit_at_mask_inside start 64 i low high) ∙ (let b = bit_at-lt word i in omega arith)

  rest_below : (i : ℕ) → i < start → bit_at rest i ≡ 0
  rest_below i low = rest_bit i ∙ ap (min (bit_at word i)) (bit_at_mask_below start 64 i low) ∙ omega arith

  pub rest_none : rest ≡ 0 → (i : ℕ) → start ≤ i → i < 64 → bit_at word i ≡ 0
  rest_none none i low high = sym (rest_at i low high) ∙ ap (λ w. bit_at w i) none ∙ bit_at-zero i

  pub rest_lowest : 0 < rest → rest < 2 ^ 64 → (trailing_zeros w64 rest < 64) × (start ≤ trailing_zeros w64 rest) × (bit_at word (trailing_zeros w64 rest) ≡ 1)
      × ((i : ℕ) → start ≤ i → i < trailing_zeros w64 rest → bit_at word i ≡ 0)
  rest_lowest some small =
      let lowest = bit_at-trailing_zeros w64 rest some small in
      let low : start ≤ trailing_zeros w64 rest = elim (cases_lt (trailing_zeros w64 rest) start) [
        | inl less ↦ absurd (no_one _ (rest_below (trailing_zeros w64 rest) less) lowest.1)
        | inr le ↦ le
      ] in (
        lowest.0,
        low,
        sym (rest_at (trailing_zeros w64 rest) low lowest.0) ∙ lowest.1,
        λ i above below. let within = lowest.0 in sym (rest_at i above (omega arith)) ∙ lowest.2 i below,
      )

  pub rest_small : rest < 2 ^ 64
  rest_small = let le = and_le_l word ((2 ^ 64 - 1) * 2 ^ start % 2 ^ 64) in omega arith
