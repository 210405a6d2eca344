-- Bits of words that are moved.
use Rattle.std.proofs.Common.{◌≡◌, ℕ, ◌+◌, ◌*◌, ◌-◌, ◌/◌, ◌%◌, ◌^◌, ◌<◌, ◌≤◌, ◌↔◌, List, inl, inr, max}
use Rattle.std.proofs.Common.{sym, ◌∙◌, ap, subst, arith, get_or, mod-lt, bit_or}
use Rattle.std.specs.Int.{bit_at}
use Rattle.std.proofs.lemmas.Bool.{cases_lt}
use Rattle.std.proofs.lemmas.Nat.{div-add-mod', pow_pos}
use Rattle.std.proofs.lemmas.Nat.Bits.{bit_at-zero, bit_at_or, bit_at_cat_low, bit_at_cat_high, bit_at_above}
use Rattle.ca_places.specs.PlaceSet.{HasBit}

-- a bit of a word that is moved down
pub bit_at_down : (n s k : ℕ) → bit_at (n / 2 ^ s) k ≡ bit_at n (s + k)
bit_at_down n s k =
    ap (bit_at (n / 2 ^ s)) (let e : k ≡ s + k - s = omega arith in e)
    ∙ sym (bit_at_cat_high (n / 2 ^ s) s (n % 2 ^ s) (s + k) (mod-lt n (pow_pos s)) (omega arith))
    ∙ ap (λ m. bit_at m (s + k)) (div-add-mod' n (2 ^ s))

-- a bit of a word that keeps its lowest bits alone
bit_at_kept : (n m i : ℕ) → i < m → bit_at (n % 2 ^ m) i ≡ bit_at n i
bit_at_kept n m i low =
    sym (bit_at_cat_low (n / 2 ^ m) m (n % 2 ^ m) i low) ∙ ap (λ x. bit_at x i) (div-add-mod' n (2 ^ m))

-- a bit of a word that is moved up
up_low : (n m i : ℕ) → i < m → bit_at (n * 2 ^ m) i ≡ 0
up_low n m i low =
    ap (λ x. bit_at x i) (let e : n * 2 ^ m ≡ n * 2 ^ m + 0 = omega arith in e) ∙ bit_at_cat_low n m 0 i low ∙ bit_at-zero i

up_high : (n m i : ℕ) → m ≤ i → bit_at (n * 2 ^ m) i ≡ bit_at n (i - m)
up_high n m i high =
    ap (λ x. bit_at x i) (let e : n * 2 ^ m ≡ n * 2 ^ m + 0 = omega arith in e) ∙ bit_at_cat_high n m 0 i (pow_pos m) high

-- a bit of a window of two words
pub bit_of_window : (low high s k : ℕ) → low < 2 ^ 64 → s < 64 → k < 64
    → bit_at (bit_or (low / 2 ^ s) (high * 2 ^ (64 - s) % 2 ^ 64)) k ≡ max (bit_at low (s + k)) (bit_at (high * 2 ^ (64 - s)) k)
bit_of_window low high s k small within bit =
    bit_at_or (low / 2 ^ s) (high * 2 ^ (64 - s) % 2 ^ 64) k
    ∙ ap (λ b. max b (bit_at (high * 2 ^ (64 - s) % 2 ^ 64) k)) (bit_at_down low s k)
    ∙ ap (max (bit_at low (s + k))) (bit_at_kept (high * 2 ^ (64 - s)) 64 k bit)

-- the window has the bits of the words from a place on
pub window_bit : (words : List ℕ) (from k : ℕ) → get_or words (from / 64) 0 < 2 ^ 64 → k < 64
    → bit_at (bit_or (get_or words (from / 64) 0 / 2 ^ (from % 64)) (get_or words (from / 64 + 1) 0 * 2 ^ (64 - from % 64) % 2 ^ 64)) k
    ≡ bit_at (get_or words ((from + k) / 64) 0) ((from + k) % 64)
window_bit words from k small bit = bit_of_window (get_or words (from / 64) 0) (get_or words (from / 64 + 1) 0) (from % 64) k small (omega arith) bit ∙ elim (cases_lt (from % 64 + k) 64) [
  | inl low ↦
      let here : (from + k) / 64 ≡ from / 64 = omega arith in
      let at : (from + k) % 64 ≡ from % 64 + k = omega arith in
      ap (max (bit_at (get_or words (from / 64) 0) (from % 64 + k))) (up_low (get_or words (from / 64 + 1) 0) (64 - from % 64) k (omega arith))
      ∙ (let e : max (bit_at (get_or words (from / 64) 0) (from % 64 + k)) 0 ≡ bit_at (get_or words (from / 64) 0) (from % 64 + k) = omega arith in e)
      ∙ ap (λ w. bit_at (get_or words w 0) (from % 64 + k)) (sym here)
      ∙ ap (bit_at (get_or words ((from + k) / 64) 0)) (sym at)
  | inr high ↦
      let here : (from + k) / 64 ≡ from / 64 + 1 = omega arith in
      let at : (from + k) % 64 ≡ k - (64 - from % 64) = omega arith in
      ap (λ b. max b (bit_at (get_or words (from / 64 + 1) 0 * 2 ^ (64 - from % 64)) k)) (bit_at_above (get_or words (from / 64) 0) 64 (from % 64 + k) small high)
      ∙ (let e : max 0 (bit_at (get_or words (from / 64 + 1) 0 * 2 ^ (64 - from % 64)) k) ≡ bit_at (get_or words (from / 64 + 1) 0 * 2 ^ (64 - from % 64)) k = omega arith in e)
      ∙ up_high (get_or words (from / 64 + 1) 0) (64 - from % 64) k (omega arith)
      ∙ ap (λ w. bit_at (get_or words w 0) (k - (64 - from % 64))) (sym here)
      ∙ ap (bit_at (get_or words ((from + k) / 64) 0)) (sym at)
]

-- so it is with words that were read
pub window_has : (words : List ℕ) (from k low high : ℕ) → low < 2 ^ 64 → low ≡ get_or words (from / 64) 0 → high ≡ get_or words (from / 64 + 1) 0 → k < 64
    → (bit_at (bit_or (low / 2 ^ (from % 64)) (high * 2 ^ (64 - from % 64) % 2 ^ 64)) k ≡ 1) ↔ HasBit words (from + k)
window_has words from k low high small low_is high_is bit =
    let is : bit_at (bit_or (low / 2 ^ (from % 64)) (high * 2 ^ (64 - from % 64) % 2 ^ 64)) k ≡ bit_at (get_or words ((from + k) / 64) 0) ((from + k) % 64) =
    ap (λ l. bit_at (bit_or (l / 2 ^ (from % 64)) (high * 2 ^ (64 - from % 64) % 2 ^ 64)) k) low_is
    ∙ ap (λ h. bit_at (bit_or (get_or words (from / 64) 0 / 2 ^ (from % 64)) (h * 2 ^ (64 - from % 64) % 2 ^ 64)) k) high_is
    ∙ window_bit words from k (subst (λ l. l < 2 ^ 64) low_is small) bit in
    ((λ one. sym is ∙ one), (λ has. is ∙ has))
