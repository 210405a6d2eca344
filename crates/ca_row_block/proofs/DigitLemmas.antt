-- Digits of the numbers of rows, and the vectors that they give.
use Rattle.std.proofs.Common.{◌≡◌, ℕ, zero, suc, ◌+◌, ◌-◌, ◌*◌, ◌/◌, ◌%◌, ◌^◌, ◌<◌, ◌≤◌, ◌==◌, List, ◌∷◌}
use Rattle.std.proofs.Common.{length, refl, sym, ◌∙◌, ap, arith, set, not-suc-le-zero, le_of_suc-le-suc, get_or-set_same, get_or-set_other, length-set}
use Rattle.std.specs.Int.{bit_at}
use Rattle.std.proofs.Math.Decide.{dec_le}
use Rattle.std.proofs.lemmas.Nat.{shr-shr, shr_split}
use Rattle.std.proofs.lemmas.Nat.Bits.{bit_at_cat_low, bit_at_cat_high, bit_at-lt}
use Rattle.ca_net.specs.declared.trit.Trit.{Trit}
use Rattle.ca_net.specs.declared.trit.Trit.TheVariants.{Zero, One, X}
use Rattle.ca_net.specs.State.{value_at}
use Rattle.ca_cell.specs.Row.{digit_value, vector_of}
use Rattle.ca_settle.proofs.WriteLemmas.{write_more}
use Rattle.ca_planes.specs.Plane.{has_lane}
use Rattle.ca_block.specs.Limits.{source_lane}
use Rattle.ca_row_block.specs.declared.load.Side.{Side}
use Rattle.ca_row_block.specs.declared.load.Side.TheVariants.{First, Last}
use Rattle.ca_row_block.specs.Masks.{has_digit}
use Rattle.ca_row_block.specs.code.Digits.{is_value}
use Rattle.ca_row_block.specs.code.Loaded.{IsLoadedTo, rails_and, side_of, row_digit}

-- a low digit of a row's number is one of its lane
pub low_digit : (block lane digit : ℕ) → digit < 6 → has_digit lane digit ≡ has_digit (block * 64 + lane) digit
unfolding has_lane
low_digit block lane digit lt = ap (λ n. n == 1) (sym (bit_at_cat_low block 6 lane digit lt))

-- a high one is one of its block
pub high_digit : (block lane digit : ℕ) → lane < 64 → 6 ≤ digit → has_digit block (digit - 6) ≡ has_digit (block * 64 + lane) digit
unfolding has_lane
high_digit block lane digit lt le = ap (λ n. n == 1) (sym (bit_at_cat_high block 6 lane digit lt le))

digit_cases : (x : ℕ) → x < 2 → digit_value x ≡ is_value (x == 1)
digit_cases zero h = refl
digit_cases (suc zero) h = refl
digit_cases (suc (suc r)) h = absurd (not-suc-le-zero (le_of_suc-le-suc (le_of_suc-le-suc h)))

value_of_digit : (number digit : ℕ) → digit_value (number / 2 ^ digit % 2) ≡ is_value (has_digit number digit)
unfolding has_lane
value_of_digit number digit = digit_cases (bit_at number digit) (bit_at-lt number digit)

-- a low digit is one of the rest, and a digit of the quotient is a higher one
pub rest_digit : (number digits digit : ℕ) → digit < digits → has_digit (number % 2 ^ digits) digit ≡ has_digit number digit
unfolding has_lane
rest_digit number digits digit lt =
    ap (λ n. n == 1) (sym (bit_at_cat_low (number / 2 ^ digits) digits (number % 2 ^ digits) digit lt) ∙ ap (λ n. bit_at n digit) (shr_split number digits))

quotient_digit : (number digits digit : ℕ) → has_digit (number / 2 ^ digits) digit ≡ has_digit number (digits + digit)
unfolding has_lane
quotient_digit number digits digit = ap (λ x. x % 2 == 1) (shr-shr number digits digit)

-- numbers with the same low digits have the same vector
pub same_vector : (inputs a b : ℕ) → ((digit : ℕ) → digit < inputs → has_digit a digit ≡ has_digit b digit) → vector_of inputs a ≡ vector_of inputs b
same_vector zero a b same = refl
same_vector (suc after) a b same =
    let head : digit_value (a / 2 ^ after % 2) ≡ digit_value (b / 2 ^ after % 2) =
    value_of_digit a after ∙ ap is_value (same after (omega arith)) ∙ sym (value_of_digit b after) in
    ap (λ v. v ∷ vector_of after a) head ∙ ap (λ vs. digit_value (b / 2 ^ after % 2) ∷ vs) (same_vector after a b (λ digit lt. same digit (omega arith)))

-- the vector of a lane's number is that of its low digits
pub last_vector : (inputs lane : ℕ) → vector_of inputs (lane % 2 ^ inputs) ≡ vector_of inputs lane
last_vector inputs lane = same_vector inputs (lane % 2 ^ inputs) lane (λ digit lt. rest_digit lane inputs digit lt)

-- a digit of a row's number, where that of its block is taken without its high digits
block_digit : (block lane digit : ℕ) → lane < 64 → digit < 12 → has_digit (block % 64 * 64 + lane) digit ≡ has_digit (block * 64 + lane) digit
block_digit block lane digit low lt = elim (dec_le 6 digit) [
  | yes le ↦
      sym (high_digit (block % 64) lane digit low le) ∙ rest_digit block 6 (digit - 6) (omega (arith, lt, le)) ∙ high_digit block lane digit low le
  | no gt ↦ sym (low_digit (block % 64) lane digit (omega arith)) ∙ low_digit block lane digit (omega arith)
]

-- the lane from which a row begins has its first vector
pub source_vector : (inputs block lane : ℕ) → inputs ≤ 6 → lane < 64 → vector_of inputs (source_lane inputs block lane) ≡ vector_of inputs ((block * 64 + lane) / 2 ^ inputs)
source_vector inputs block lane few low = same_vector inputs (source_lane inputs block lane) ((block * 64 + lane) / 2 ^ inputs) (λ digit lt.
    rest_digit ((block % 64 * 64 + lane) / 2 ^ inputs) 6 digit (omega (arith, lt, few))
    ∙ quotient_digit (block % 64 * 64 + lane) inputs digit
    ∙ block_digit block lane (inputs + digit) low (omega (arith, lt, few))
    ∙ sym (quotient_digit (block * 64 + lane) inputs digit))

pub source_within : (inputs block lane : ℕ) → source_lane inputs block lane < 64
source_within inputs block lane = omega arith

-- the value that a vector has at a place
vector_digit : (inputs number place : ℕ) → place < inputs → value_at (vector_of inputs number) place ≡ digit_value (number / 2 ^ (inputs - 1 - place) % 2)
vector_digit zero number place lt = absurd (omega arith)
vector_digit (suc after) number zero lt = ap (λ k. digit_value (number / 2 ^ k % 2)) (let e : after ≡ suc after - 1 - 0 = omega arith in e)
vector_digit (suc after) number (suc place) lt =
    vector_digit after number place (omega arith)
    ∙ ap (λ k. digit_value (number / 2 ^ k % 2)) (let e : after - 1 - place ≡ suc after - 1 - suc place = omega arith in e)

-- on each side it is that of a digit of the row's number
pub side_digit : (side : Side) (inputs number place : ℕ) → place < inputs
    → value_at (side_of side inputs number) place ≡ is_value (has_digit number (row_digit side inputs (inputs - 1 - place)))
side_digit First inputs number place lt =
    vector_digit inputs (number / 2 ^ inputs) place lt
    ∙ ap (λ x. digit_value (x % 2)) (shr-shr number inputs (inputs - 1 - place))
    ∙ value_of_digit number (inputs + (inputs - 1 - place))
side_digit Last inputs number place lt =
    vector_digit inputs (number % 2 ^ inputs) place lt
    ∙ ap digit_value (sym (bit_at_cat_low (number / 2 ^ inputs) inputs (number % 2 ^ inputs) (inputs - 1 - place) (omega arith))
    ∙ ap (λ n. bit_at n (inputs - 1 - place)) (shr_split number inputs))
    ∙ value_of_digit number (inputs - 1 - place)

-- power and ground are there
pub rails_loaded : (vector s t u : List Trit) → 1 < length s → t ≡ set s 0 One → u ≡ set t 1 Zero → IsLoadedTo 2 (rails_and vector) u
rails_loaded vector s t u within is_t is_u n lt = at n lt
  where
    at : (n : ℕ) → n < 2 → value_at u n ≡ value_at (rails_and vector) n
    at zero lt = ap (λ x. value_at x 0) is_u ∙ get_or-set_other t 1 0 Zero X (λ e. cc) ∙ ap (λ x. value_at x 0) is_t ∙ get_or-set_same s 0 One X (omega (arith, within))
    at (suc zero) lt =
        ap (λ x. value_at x 1) is_u
        ∙ get_or-set_same t 1 Zero X (let e = ap length is_t ∙ length-set s 0 One in omega (arith, e, within))
    at (suc (suc r)) lt = absurd (not-suc-le-zero (le_of_suc-le-suc (le_of_suc-le-suc lt)))

-- one more input pin is loaded
pub loaded_more : (side : Side) (inputs number place : ℕ) (s t : List Trit) (x : Trit) → place < inputs → 2 + place < length s → t ≡ set s (2 + place) x
    → x ≡ is_value (has_digit number (row_digit side inputs (inputs - 1 - place)))
    → IsLoadedTo (2 + place) (rails_and (side_of side inputs number)) s → IsLoadedTo (2 + (place + 1)) (rails_and (side_of side inputs number)) t
loaded_more side inputs number place s t x lt within is value before n below =
    write_more (λ m v. v ≡ value_at (rails_and (side_of side inputs number)) m) s t (2 + place) x within is before
    (value ∙ sym (side_digit side inputs number place lt) ∙ ap (value_at (rails_and (side_of side inputs number))) (let e : suc (suc place) ≡ 2 + place = omega arith in e))
    n (omega (arith, below))
