-- One bit of a plane, through each operation.
use Rattle.std.proofs.Common.{◌≡◌, ℕ, zero, suc, ◌+◌, ◌-◌, ◌^◌, ◌<◌, min, max, true, false, ◌&&◌}
use Rattle.std.proofs.Common.{◌||◌, ◌==◌, not, refl, sym, ap, ◌∙◌, arith, w64, not-suc-le-zero, le_of_suc-le-suc}
use Rattle.std.proofs.Math.Decide.{dec_le}
use Rattle.std.specs.Int.{bit_at, bit_not}
use Rattle.std.specs.Int.Bits.{bit_and, bit_or}
use Rattle.std.proofs.lemmas.Nat.Bits.{bit_at_and, bit_at_or, bit_at_not, bit_at-zero, bit_at-lt, bit_at_above}
use Rattle.std.proofs.lemmas.Nat.Bits.{bit_at_ones, same_from_bits_below}
use Rattle.ca_planes.specs.Plane.{has_lane}

bit_cases : (P : ℕ → Type 0) → P 0 → P 1 → (x : ℕ) → x < 2 → P x
bit_cases P p q zero h = p
bit_cases P p q (suc zero) h = q
bit_cases P p q (suc (suc r)) h = absurd (not-suc-le-zero (le_of_suc-le-suc (le_of_suc-le-suc h)))

two_bits : (P : ℕ → ℕ → Type 0) → P 0 0 → P 0 1 → P 1 0 → P 1 1 → (a b i : ℕ) → P (bit_at a i) (bit_at b i)
two_bits P p q r s a b i =
    bit_cases (λ x. P x (bit_at b i)) (bit_cases (P 0) p q (bit_at b i) (bit_at-lt b i)) (bit_cases (P 1) r s (bit_at b i) (bit_at-lt b i)) (bit_at a i) (bit_at-lt a i)

pub in_both : (a b lane : ℕ) → has_lane (bit_and a b) lane ≡ (has_lane a lane && has_lane b lane)
unfolding has_lane
in_both a b lane = ap (λ n. n == 1) (bit_at_and a b lane) ∙ two_bits (λ x y. (min x y == 1) ≡ ((x == 1) && (y == 1))) refl refl refl refl a b lane

pub in_either : (a b lane : ℕ) → has_lane (bit_or a b) lane ≡ (has_lane a lane || has_lane b lane)
unfolding has_lane
in_either a b lane = ap (λ n. n == 1) (bit_at_or a b lane) ∙ two_bits (λ x y. (max x y == 1) ≡ ((x == 1) || (y == 1))) refl refl refl refl a b lane

pub in_except : (a b lane : ℕ) → a < 2 ^ 64 → b < 2 ^ 64 → has_lane (bit_and a (bit_not w64 b)) lane ≡ (has_lane a lane && not (has_lane b lane))
unfolding has_lane
in_except a b lane below other = elim (dec_le (lane + 1) 64) [
  | yes lt ↦
      ap (λ n. n == 1) (bit_at_and a (bit_not w64 b) lane ∙ ap (min (bit_at a lane)) (bit_at_not w64 b lane other (omega arith)))
      ∙ two_bits (λ x y. (min x (1 - y) == 1) ≡ ((x == 1) && not (y == 1))) refl refl refl refl a b lane
  | no ge ↦
      let none : bit_at a lane ≡ 0 = bit_at_above a 64 lane below (omega arith) in
      let less : min (bit_at a lane) (bit_at (bit_not w64 b) lane) ≡ 0 = omega (arith, none) in
      ap (λ n. n == 1) (bit_at_and a (bit_not w64 b) lane ∙ less) ∙ sym (ap (λ n. (n == 1) && not (bit_at b lane == 1)) none)
]

-- no lane is in the plane 0
pub in_none : (lane : ℕ) → has_lane 0 lane ≡ false
unfolding has_lane
in_none lane = ap (λ n. n == 1) (bit_at-zero lane)

-- each of the 64 lanes is in the plane of all
pub in_all : (lane : ℕ) → lane < 64 → has_lane (2 ^ 64 - 1) lane ≡ true
unfolding has_lane
in_all lane lt = ap (λ n. n == 1) (bit_at_ones 64 lane lt)

bit_none : (x : ℕ) → x < 2 → (x == 1) ≡ false → x ≡ 0
bit_none x lt e = bit_cases (λ y. (y == 1) ≡ false → y ≡ 0) (λ _. refl) (λ f. cc) x lt e

-- a plane of no lane is 0
pub none_in : (a : ℕ) → a < 2 ^ 64 → ((lane : ℕ) → lane < 64 → has_lane a lane ≡ false) → a ≡ 0
unfolding has_lane
none_in a below none = same_from_bits_below 64 a 0 below (omega arith) (λ i lt. bit_none (bit_at a i) (bit_at-lt a i) (none i lt) ∙ sym (bit_at-zero i))
