-- Partial pairs of which one vector is set.
use Rattle.std.proofs.Common.{◌≡◌, ◌≢◌, ℕ, Bool, true, false, zero, suc, ◌+◌, ◌-◌, ◌*◌, ◌/◌, ◌%◌, ◌^◌, ◌<◌, ◌≤◌, length, replicate, refl, sym, ◌∙◌, ap, arith, inl, inr}
use Rattle.std.proofs.Math.Nat.{mod-eq_of_lt, pow-le-pow_right}
use Rattle.std.proofs.lemmas.Bool.{cases_lt}
use Rattle.std.proofs.lemmas.List.{length-append, length-replicate, get_or_append_left, get_or-append-add, get_or-replicate, get_or_past}
use Rattle.ca_net.specs.declared.trit.Trit.{Trit}
use Rattle.std.specs.Prelude.{if◌then◌else◌, ◌==◌}
use Rattle.ca_net.specs.declared.trit.Trit.TheVariants.{Zero, One, X}
use Rattle.ca_net.specs.State.{value_at}
use Rattle.ca_cell.specs.Row.{digit_value, vector_of}
use Rattle.ca_every_vector.specs.Vectors.{first_set, last_set}

pub length-vector_of : (inputs number : ℕ) → length (vector_of inputs number) ≡ inputs
length-vector_of zero number = refl
length-vector_of (suc after) number = ap suc (length-vector_of after number)

-- the digit at a place
pub digit_at : (count number place : ℕ) → place < count → value_at (vector_of count number) place ≡ digit_value (number / 2 ^ (count - 1 - place) % 2)
digit_at zero number place within = absurd (omega arith)
digit_at (suc after) number zero within = let e : suc after - 1 - zero ≡ after = omega arith in ap (λ n. digit_value (number / 2 ^ n % 2)) (sym e)
digit_at (suc after) number (suc place) within =
    let e : suc after - 1 - suc place ≡ after - 1 - place = omega arith in
    digit_at after number place (omega arith) ∙ ap (λ n. digit_value (number / 2 ^ n % 2)) (sym e)

-- X wherever
pub unknown : (count bit : ℕ) → value_at (replicate count X) bit ≡ X
unknown count bit = elim (cases_lt bit count) [
  | inl low ↦ get_or-replicate count bit X X low
  | inr high ↦ get_or_past (replicate count X) bit X (let r = length-replicate count X in omega arith)
]

module _ (inputs number : ℕ) where
  pub length-first_set : length (first_set inputs number) ≡ 2 * inputs
  length-first_set = length-append (vector_of inputs number) (replicate inputs X)
      ∙ (let v = length-vector_of inputs number in let r = length-replicate inputs X in omega arith)

  pub length-last_set : length (last_set inputs number) ≡ 2 * inputs
  length-last_set = length-append (replicate inputs X) (vector_of inputs number)
      ∙ (let v = length-vector_of inputs number in let r = length-replicate inputs X in omega arith)

  -- the value of a bit of the first vector
  pub first_low : (bit : ℕ) → bit < inputs → value_at (first_set inputs number) bit ≡ value_at (vector_of inputs number) bit
  first_low bit low = get_or_append_left (vector_of inputs number) (replicate inputs X) X bit (let v = length-vector_of inputs number in omega arith)

  pub first_high : (bit : ℕ) → inputs ≤ bit → value_at (first_set inputs number) bit ≡ X
  first_high bit high =
      let v = length-vector_of inputs number in
      let e : bit ≡ length (vector_of inputs number) + (bit - inputs) = omega arith in
      ap (value_at (first_set inputs number)) e
      ∙ get_or-append-add (vector_of inputs number) (replicate inputs X) (bit - inputs) X
      ∙ unknown inputs (bit - inputs)

  pub last_low : (bit : ℕ) → bit < inputs → value_at (last_set inputs number) bit ≡ X
  last_low bit low = get_or_append_left (replicate inputs X) (vector_of inputs number) X bit (let r = length-replicate inputs X in omega arith)
      ∙ unknown inputs bit

  pub last_high : (bit : ℕ) → value_at (last_set inputs number) (inputs + bit) ≡ value_at (vector_of inputs number) bit
  last_high bit =
      let r = length-replicate inputs X in
      let e : inputs + bit ≡ length (replicate inputs X) + bit = omega arith in
      ap (value_at (last_set inputs number)) e
      ∙ get_or-append-add (replicate inputs X) (vector_of inputs number) bit X

-- a digit that was read at a place
pub digit_here : (count number place counted : ℕ) (digit : Trit) → place < count → counted ≡ count → digit ≡ digit_value (number / 2 ^ (counted - 1 - place) % 2)
    → value_at (vector_of count number) place ≡ digit
digit_here count number place counted digit within same is = digit_at count number place within
    ∙ ap (λ n. digit_value (number / 2 ^ (n - 1 - place) % 2)) (sym same) ∙ sym is

-- so many vectors have few bits
pub vector_count : (bits : ℕ) → bits ≤ 20 → (1 * 2 ^ bits % 2 ^ 64 ≡ 2 ^ bits) × (2 ^ bits ≤ 1048576)
vector_count bits few =
    let powers : 2 ^ bits ≤ 2 ^ 20 = pow-le-pow_right (omega arith) few in
    let low : 2 ^ bits ≤ 1048576 = omega (arith, powers) in (mod-eq_of_lt (omega arith) ∙ omega arith, low)

pub row_count : (bits : ℕ) → bits ≤ 6 → (1 * 2 ^ bits % 2 ^ 64 ≡ 2 ^ bits) × (2 ^ bits ≤ 64)
row_count bits few =
    let powers : 2 ^ bits ≤ 2 ^ 6 = pow-le-pow_right (omega arith) few in
    let low : 2 ^ bits ≤ 64 = omega (arith, powers) in ((vector_count bits (omega arith)).0, low)

choice_definite : (is : Bool) → (if is then Zero else One) ≢ X
choice_definite true e = cc
choice_definite false e = cc

-- the digits of a vector are definite
pub vector_definite : (count number place : ℕ) → place < count → value_at (vector_of count number) place ≢ X
vector_definite count number place within e =
    choice_definite (number / 2 ^ (count - 1 - place) % 2 == 0) (sym (digit_at count number place within) ∙ e)
