-- Rows against the values of pins.
use Rattle.std.proofs.Common.{ℕ, zero, suc, ◌+◌, ◌-◌, ◌/◌, ◌%◌, ◌^◌, ◌≡◌, ◌<◌, ◌≤◌, List, length, get_or}
use Rattle.std.proofs.Common.{take, Some, refl, sym, ◌∙◌, ap, subst, arith, eqb, Bool, true, false, eqb-true}
use Rattle.std.proofs.Common.{take_all}
use Rattle.std.specs.Prelude.{slice_get}
use Rattle.std.specs.List.{All}
use Rattle.ca_net.specs.declared.trit.Trit.{Trit}
use Rattle.ca_net.specs.declared.wave.Wave.{Wave}
use Rattle.ca_net.specs.Trit.{IsBelow}
use Rattle.ca_net.specs.State.{value_at}
use Rattle.ca_cell.specs.Row.{digit_value, vector_of}
use Rattle.ca_guide.specs.declared.rows.End.{End}
use Rattle.ca_flat.specs.Waves.{unknown_wave}
use Rattle.ca_guide.specs.PinRows.{end_of, pin_value, IsOverPins, IsOver}
use Rattle.std.proofs.lemmas.Option.{get_or_from_slice_get, slice_get_within}
use Rattle.std.proofs.lemmas.List.Elements.{All-more}
use Rattle.std.proofs.lemmas.Bool.{eqb-false}

-- the digit at a place
digit_at : (count number place : ℕ) → place < count → value_at (vector_of count number) place ≡ digit_value (number / 2 ^ (count - 1 - place) % 2)
digit_at zero number place within = absurd (omega arith)
digit_at (suc after) number zero within = let e : suc after - 1 - zero ≡ after = omega arith in ap (λ n. digit_value (number / 2 ^ n % 2)) (sym e)
digit_at (suc after) number (suc place) within =
    let e : suc after - 1 - suc place ≡ after - 1 - place = omega arith in
    digit_at after number place (omega arith) ∙ ap (λ n. digit_value (number / 2 ^ n % 2)) (sym e)

-- what was read of one pin
pub record IsRead (good : List Wave) (end : End) (pins : List ℕ) (number place : ℕ) (value digit : Trit) : Type 0 where
  pub wave : Wave
  pub wave_is : slice_get good (get_or pins place 0) ≡ Some wave
  pub value_is : value ≡ end_of end wave
  pub within : place < length pins
  pub digit_is : digit ≡ digit_value (number / 2 ^ (length pins - 1 - place) % 2)

module _ (good : List Wave) (end : End) (pins : List ℕ) (number place : ℕ) (value digit : Trit) (read : IsRead good end pins number place value digit) where
  value_read : pin_value good end pins place ≡ value
  value_read = ap (end_of end) (get_or_from_slice_get good (get_or pins place 0) read.wave unknown_wave read.wave_is) ∙ sym read.value_is

  digit_read : value_at (vector_of (length pins) number) place ≡ digit
  digit_read = digit_at (length pins) number place read.within ∙ sym read.digit_is

  pub over_more : IsBelow value digit → IsOverPins good end pins number place → IsOverPins good end pins number (place + 1)
  over_more below over pin before = at (eqb pin place) refl
    where
      at : (b : Bool) → eqb pin place ≡ b → IsBelow (pin_value good end pins pin) (value_at (vector_of (length pins) number) pin)
      at true e = subst (λ n. IsBelow (pin_value good end pins n) (value_at (vector_of (length pins) number) n)) (sym (eqb-true pin place e))
          (subst (λ v. IsBelow v (value_at (vector_of (length pins) number) place)) (sym value_read) (subst (IsBelow value) (sym digit_read) below))
      at false e = over pin (let other = eqb-false pin place e in omega (arith, other))

  pub not_over : (IsBelow value digit → ⊥) → IsOver good end pins number → ⊥
  not_over above over = above (subst (IsBelow value) digit_read (subst (λ v. IsBelow v (value_at (vector_of (length pins) number) place)) value_read (over place read.within)))

pub all_more : {X : Type 0} (P : X → Type 0) (xs : List X) (place : ℕ) (x : X) → slice_get xs place ≡ Some x → P x → All P (take place xs) → All P (take (place + 1) xs)
all_more P xs place x here holds all =
    All-more P xs place x (slice_get_within xs place x here) all (subst P (sym (get_or_from_slice_get xs place x x here)) holds)

pub all_taken : {X : Type 0} (P : X → Type 0) (xs : List X) (place : ℕ) → length xs ≤ place → All P (take place xs) → All P xs
all_taken P xs place past all = subst (All P) (take_all place xs past) all
