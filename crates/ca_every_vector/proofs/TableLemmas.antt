-- Each definite pair has its vectors among those that were tried.
use Rattle.std.proofs.Common.{◌≡◌, ◌≢◌, ℕ, ◌+◌, ◌-◌, ◌*◌, ◌^◌, ◌<◌, ◌≤◌, Bool, true, false, List, length, take, drop, inl, inr, sym, ◌∙◌, ap, subst, arith, get_or, ◌++◌, Some, take_all}
use Rattle.std.specs.Prelude.{slice_get}
use Rattle.std.specs.List.{All}
use Rattle.std.proofs.lemmas.Option.{get_or_from_slice_get, slice_get_within}
use Rattle.std.proofs.lemmas.List.Elements.{All-more}
use Rattle.std.proofs.Math.Seq.{take-append_seam}
use Rattle.std.proofs.lemmas.Bool.{cases_lt}
use Rattle.std.proofs.lemmas.List.{get_or-map, get_or-take, get_or-drop, length-map, length-take, length-drop}
use Rattle.ca_net.specs.declared.trit.Trit.{Trit}
use Rattle.ca_net.specs.declared.trit.Trit.TheVariants.{X}
use Rattle.ca_net.specs.State.{value_at, IsStateBelow}
use Rattle.ca_cell.specs.Row.{vector_of}
use Rattle.ca_cell.proofs.NumberLemmas.{number_of, number_within, vector_again}
use Rattle.ca_flat.specs.Chip.{Chip}
use Rattle.ca_flat.specs.Codes.{bit_trit}
use Rattle.ca_flat.specs.Detection.{trits_of}
use Rattle.ca_every_vector.specs.Vectors.{first_set, last_set}
use Rattle.ca_every_vector.specs.code.Masks.{HaveFirsts, HaveLasts, IsTable}
use Rattle.ca_every_vector.proofs.VectorLemmas.{first_low, first_high, last_low, last_high}

bit_definite : (bit : Bool) → bit_trit bit ≢ X
bit_definite true e = cc
bit_definite false e = cc

module _ (bits : List Bool) (inputs : ℕ) (count : length bits ≡ 2 * inputs) where
  trits : List Trit
  trits = trits_of bits

  long : length (trits_of bits) ≡ 2 * inputs
  long = length-map bits bit_trit ∙ count

  definite : (k : ℕ) (d : Trit) → k < 2 * inputs → get_or (trits_of bits) k d ≢ X
  definite k d low e = bit_definite (get_or bits k false) (sym (get_or-map bit_trit bits k false d (omega arith)) ∙ e)

  first_half : List Trit
  first_half = take inputs (trits_of bits)

  last_half : List Trit
  last_half = drop inputs (trits_of bits)

  first_long : length first_half ≡ inputs
  unfolding first_half
  first_long = length-take inputs (trits_of bits) ∙ (let l = long in omega arith)

  last_long : length last_half ≡ inputs
  unfolding last_half
  last_long = length-drop inputs (trits_of bits) ∙ (let l = long in omega arith)

  first_at : (k : ℕ) (d : Trit) → k < inputs → get_or first_half k d ≡ get_or (trits_of bits) k d
  unfolding first_half
  first_at k d low = get_or-take inputs (trits_of bits) k d low

  last_at : (k : ℕ) (d : Trit) → get_or last_half k d ≡ get_or (trits_of bits) (inputs + k) d
  unfolding last_half
  last_at k d = get_or-drop inputs (trits_of bits) k d

  first_definite : All (λ value. value ≢ X) first_half
  first_definite k d low e = definite k d (let l = first_long in omega arith) (sym (first_at k d (let l = first_long in omega arith)) ∙ e)

  last_definite : All (λ value. value ≢ X) last_half
  last_definite k d low e = definite (inputs + k) d (let l = last_long in omega arith) (sym (last_at k d) ∙ e)

  pub first_number : ℕ
  first_number = number_of first_half

  pub last_number : ℕ
  last_number = number_of last_half

  pub first_known : first_number < 2 ^ inputs
  unfolding first_number
  first_known = subst (λ n. number_of first_half < 2 ^ n) first_long (number_within first_half)

  pub last_known : last_number < 2 ^ inputs
  unfolding last_number
  last_known = subst (λ n. number_of last_half < 2 ^ n) last_long (number_within last_half)

  first_again : vector_of inputs first_number ≡ first_half
  unfolding first_number
  first_again = ap (λ n. vector_of n (number_of first_half)) (sym first_long) ∙ vector_again first_half first_definite

  last_again : vector_of inputs last_number ≡ last_half
  unfolding last_number
  last_again = ap (λ n. vector_of n (number_of last_half)) (sym last_long) ∙ vector_again last_half last_definite

  pub first_below : IsStateBelow (first_set inputs first_number) (trits_of bits)
  first_below bit = elim (cases_lt bit inputs) [
    | inl low ↦ inr (first_low inputs first_number bit low ∙ ap (λ vector. value_at vector bit) first_again ∙ first_at bit X low)
    | inr high ↦ inl (first_high inputs first_number bit high)
  ]

  pub last_below : IsStateBelow (last_set inputs last_number) (trits_of bits)
  last_below bit = elim (cases_lt bit inputs) [
    | inl low ↦ inl (last_low inputs last_number bit low)
    | inr high ↦
        let e : bit ≡ inputs + (bit - inputs) = omega arith in
        inr (ap (value_at (last_set inputs last_number)) e ∙ last_high inputs last_number (bit - inputs) ∙ ap (λ vector. value_at vector (bit - inputs)) last_again
        ∙ last_at (bit - inputs) X ∙ ap (value_at (trits_of bits)) (sym e))
  ]

-- masks that have what all vectors give are a table
pub table_is : (chip : Chip) (place_of : ℕ → ℕ) (firsts lasts : List ℕ) → HaveFirsts chip place_of (2 ^ length chip.inputs) firsts → HaveLasts chip place_of (2 ^ length chip.inputs) lasts
    → IsTable chip place_of firsts lasts
table_is chip place_of firsts lasts have_firsts have_lasts formed u placed first_fits last_fits = record {
  firsts_are = λ bits count. record {
    partial = first_set (length chip.inputs) (first_number bits (length chip.inputs) count);
    below = first_below bits (length chip.inputs) count;
    of = have_firsts formed (first_number bits (length chip.inputs) count) u (first_known bits (length chip.inputs) count) placed;
  };
  lasts_are = λ bits count. record {
    partial = last_set (length chip.inputs) (last_number bits (length chip.inputs) count);
    below = last_below bits (length chip.inputs) count;
    of = have_lasts formed (last_number bits (length chip.inputs) count) u (last_known bits (length chip.inputs) count) placed;
  };
}

-- what was written over a list of as many
pub taken : (count : ℕ) (new rest : List ℕ) → length new ≡ count → take count (new ++ rest) ≡ new
taken count new rest same = ap (λ n. take n (new ++ rest)) (sym same) ∙ take-append_seam new rest

pub all_more : {A : Type 0} (P : A → Type 0) (xs : List A) (place : ℕ) (x : A) → slice_get xs place ≡ Some x → P x → All P (take place xs) → All P (take (place + 1) xs)
all_more P xs place x here holds all =
    All-more P xs place x (slice_get_within xs place x here) all (subst P (sym (get_or_from_slice_get xs place x x here)) holds)

pub all_taken : {A : Type 0} (P : A → Type 0) (xs : List A) (place : ℕ) → length xs ≤ place → All P (take place xs) → All P xs
all_taken P xs place past all = subst (All P) (take_all place xs past) all
