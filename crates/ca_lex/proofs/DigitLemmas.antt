-- Digits, powers of ten, and what moves by them.
use Rattle.std.proofs.Common.{◌≡◌, ℕ, zero, suc, ◌+◌, ◌*◌, ◌/◌, ◌-◌, ◌^◌, ◌<◌, ◌≤◌, ◌≢◌, true, List, [], ◌∷◌}
use Rattle.std.proofs.Common.{◌++◌, get_or, take, None, arith, refl, sym, ap, ◌∙◌, add-zero, add-one, fold}
use Rattle.std.proofs.Math.Nat.{pow-suc, mul-le-mul_left, mul-div_cancel, mul-le-mul_right, mul_assoc}
use Rattle.std.proofs.Math.Nat.{div-div-eq-div-mul}
use Rattle.std.proofs.lemmas.Nat.{pow-add, div_below}
use Rattle.std.proofs.lemmas.Grind.{pow_more}
use Rattle.std.proofs.lemmas.List.{length-take, get_or-take}
use Rattle.std.proofs.lemmas.List.Sums.{prefix_len_passes}
use Rattle.std.proofs.lemmas.Bool.Decides.{nat_tests}
use Rattle.ca_lex.specs.Length.{is_digit, digits_len, in_range, with_digit, scaled}
use Rattle.ca_lex.specs.code.LengthViews.{AllDigits}

pub digit_bounds : (byte : ℕ) → is_digit byte ≡ true → (48 ≤ byte) × (byte ≤ 57)
digit_bounds byte passes = (grind (arith, nat_tests), grind (arith, nat_tests))

-- digits are in front
pub front_digits : (text : List ℕ) → AllDigits (take (digits_len text) text)
front_digits text count above =
    let below : count < digits_len text = omega (arith, length-take (digits_len text) text) in
    rw (get_or-take (digits_len text) text count 0 below) (digit_bounds (get_or text count 0) (prefix_len_passes is_digit text count 0 below))

pub pow_pos10 : (count : ℕ) → 0 < 10 ^ count
pow_pos10 zero = omega arith
pow_pos10 (suc count) = omega (arith, pow_pos10 count, pow-suc 10 count)

-- a power is no greater than one of more factors
pub pow_up : (number count : ℕ) → 10 ^ number ≤ 10 ^ (number + count)
pow_up number zero = rw add-zero (omega arith)
pow_up number (suc count) = omega (arith, pow_up number count, pow-suc 10 (number + count), one_more number count)
  where
    one_more : (number count : ℕ) → 10 ^ (number + suc count) ≡ 10 ^ suc (number + count)
    one_more number count = ap (λ more. 10 ^ more) (omega arith)

pub pow_le : (number more : ℕ) → number ≤ more → 10 ^ number ≤ 10 ^ more
pow_le number more within =
    let is : number + (more - number) ≡ more = omega arith in
    rw is at (pow_up number (more - number))

-- one more digit after a number
pub digit_after : (value number places byte : ℕ) → value < (number + 1) * 10 ^ places → byte ≤ 9 → value * 10 + byte < (number + 1) * 10 ^ (places + 1)
digit_after value number places byte below digit =
    let is : (number + 1) * 10 ^ (places + 1) ≡ (number + 1) * 10 ^ places * 10 = ap (λ count. (number + 1) * count) (pow_more 10 places) ∙ sym (mul_assoc (number + 1) (10 ^ places) 10) in
    omega (arith, is)

pub room_so_far : (number places len : ℕ) → places ≤ len → (number + 1) * 10 ^ len ≤ 10 ^ 32 → (number + 1) * 10 ^ places ≤ 10 ^ 32
room_so_far number places len within room = omega (arith, room, mul-le-mul_left (number + 1) (pow_le places len within))

pub room_after : (number whole fraction : ℕ) → number < 1 * 10 ^ whole → whole + fraction ≤ 32 → (number + 1) * 10 ^ fraction ≤ 10 ^ 32
room_after number whole fraction below short =
    let scale : (number + 1) * 10 ^ fraction ≤ 10 ^ whole * 10 ^ fraction = mul-le-mul_right (10 ^ fraction) (omega arith) in
    omega (arith, scale, pow-add 10 whole fraction, pow_le (whole + fraction) 32 short)

pub fold_append : (digits more : List ℕ) (number : ℕ) → fold with_digit number (digits ++ more) ≡ fold with_digit (fold with_digit number digits) more
fold_append [] more number = refl
fold_append (byte ∷ digits) more number = fold_append digits more (with_digit number byte)

-- what is above 10 ^ 24 is out of range, and so is 0
pub too_large : (number : ℕ) → 10 ^ 24 < number → in_range number ≡ None
unfolding in_range
too_large number above = grind (arith, nat_tests)

pub nothing : (number : ℕ) → number ≡ 0 → in_range number ≡ None
unfolding in_range
nothing number is = rw is refl

pub times_zero : (number power : ℕ) → number ≡ 0 → in_range (number * power) ≡ None
times_zero number power is = nothing (number * power) (rw is (omega arith))

pub moved_too_far : (number places : ℕ) → number ≢ 0 → 24 < places → in_range (number * 10 ^ places) ≡ None
moved_too_far number places some far =
    let wide = pow_le 25 places (omega arith) in
    let scale : 1 * 10 ^ places ≤ number * 10 ^ places = mul-le-mul_right (10 ^ places) (omega arith) in
    too_large (number * 10 ^ places) (omega (arith, wide, scale))

pub divided_away : (number places : ℕ) → number < 10 ^ 32 → 32 ≤ places → in_range (number / 10 ^ places) ≡ None
divided_away number places below far =
    let wide = pow_le 32 places far in
    nothing (number / 10 ^ places) (omega (arith, div_below number (10 ^ places) 1 (pow_pos10 places) (omega (arith, wide))))

pub scaled_right : (number right left : ℕ) → left ≤ right → scaled number right left ≡ number * 10 ^ (right - left)
scaled_right number right left within =
    let is : 10 ^ right ≡ 10 ^ (right - left) * 10 ^ left = ap (λ count. 10 ^ count) (omega arith) ∙ pow-add 10 (right - left) left in
    let grouped : number * 10 ^ right ≡ (number * 10 ^ (right - left)) * 10 ^ left = ap (λ count. number * count) is ∙ sym (mul_assoc number (10 ^ (right - left)) (10 ^ left)) in
    ap (λ count. count / 10 ^ left) grouped ∙ mul-div_cancel (number * 10 ^ (right - left)) (pow_pos10 left)

pub scaled_left : (number right left : ℕ) → right ≤ left → scaled number right left ≡ number / 10 ^ (left - right)
scaled_left number right left within =
    let is : 10 ^ left ≡ 10 ^ right * 10 ^ (left - right) = ap (λ count. 10 ^ count) (omega arith) ∙ pow-add 10 right (left - right) in
    ap (λ count. number * 10 ^ right / count) is ∙ sym (div-div-eq-div-mul (number * 10 ^ right) (10 ^ right) (10 ^ (left - right)))
    ∙ ap (λ count. count / 10 ^ (left - right)) (mul-div_cancel number (pow_pos10 right))
