-- What a lane computes at an instance's output is the plain two-frame value there.
use Rattle.std.proofs.Common.{◌≡◌, ◌≢◌, ℕ, zero, suc, ◌+◌, ◌^◌, ◌<◌, true, false, ◌↔◌, List, [], ◌∷◌, length}
use Rattle.std.proofs.Common.{get_or, sym, ap, ◌∙◌, subst, arith}
use Rattle.std.specs.List.{All}
use Rattle.ca_net.specs.declared.trit.Trit.{Trit}
use Rattle.ca_net.specs.declared.trit.Trit.TheVariants.{Zero, One, X}
use Rattle.ca_net.specs.Trit.{IsBelow}
use Rattle.ca_net.specs.State.{value_at}
use Rattle.ca_cell.specs.Row.{vector_of}
use Rattle.ca_cell.specs.Exposes.{CellEndsAt}
use Rattle.ca_flat.specs.Chip.{Chip, cell_at, circuit_at, inputs_at, outputs_at, net_of}
use Rattle.ca_flat.specs.TwoFrame.{IsCommon, IsVectorOver, FirstRowsGive, LastRowsGive}
use Rattle.ca_cell.proofs.NumberLemmas.{number_of, number_within, vector_again}
use Rattle.ca_lanes.specs.Choice.{Choice, choice_for, trit_for}
use Rattle.ca_lanes.specs.GoodRows.{good_at, IsEndValue, AreGoodRows}
use Rattle.ca_lanes.specs.code.Given.{given_by, given_by_rows}
use Rattle.ca_lanes.proofs.AllowedLemmas.{allowed_for, AreBelow, over_is_allowed, allowed_is_over}
use Rattle.ca_lanes.proofs.AllowedLemmas.{some_vector, length_below}
use Rattle.ca_lanes.proofs.GivenLemmas.{may_be, given_is_from, given_has, rows_are_from, rows_have}
use Rattle.ca_lanes.proofs.CommonLemmas.{RowWith, is_common, is_shown}

-- the values of the instance's input pins
pub record ArePins (chip : Chip) (u : ℕ) (nets pins : List Trit) : Type 0 where
  pub count : length pins ≡ inputs_at chip u
  pub each : (pin : ℕ) → pin < inputs_at chip u → value_at pins pin ≡ value_at nets (net_of chip u pin)

below_at : (values vector : List Trit) → AreBelow values vector → (pin : ℕ) → pin < length values → IsBelow (value_at values pin) (value_at vector pin)
below_at [] [] below pin within = let no : ⊥ = omega (arith, within) in absurd no
below_at [] (v ∷ vector) below pin within = absurd below
below_at (value ∷ values) [] below pin within = absurd below
below_at (value ∷ values) (v ∷ vector) below zero within = below.0
below_at (value ∷ values) (v ∷ vector) below (suc pin) within = below_at values vector below.1 pin (omega (arith, within))

below_from : (values vector : List Trit) → length vector ≡ length values → ((pin : ℕ) → pin < length values → IsBelow (value_at values pin) (value_at vector pin)) → AreBelow values vector
below_from [] [] count each = tt
below_from [] (v ∷ vector) count each = let no : ⊥ = omega (arith, count) in absurd no
below_from (value ∷ values) [] count each = let no : ⊥ = omega (arith, count) in absurd no
below_from (value ∷ values) (v ∷ vector) count each =
    (each 0 (omega arith), below_from values vector (omega (arith, count)) (λ pin within. each (suc pin) (omega (arith, within))))

module _ (chip : Chip) (u : ℕ) (nets pins : List Trit) (are : ArePins chip u nets pins) where
  -- a vector over the nets of the pins is over their values, and the other way round
  pub to_below : (vector : List Trit) → IsVectorOver chip u nets vector → AreBelow pins vector
  to_below vector over =
      below_from pins vector (over.definite.count ∙ sym are.count) (λ pin within.
      let known : pin < inputs_at chip u = subst (λ n. pin < n) are.count within in
      subst (λ t. IsBelow t (value_at vector pin)) (sym (are.each pin known)) (over.over pin known))

  pub from_below : (vector : List Trit) → All (λ v. v ≢ X) vector → AreBelow pins vector → IsVectorOver chip u nets vector
  from_below vector definite below = record {
    definite = record { count = sym (length_below pins vector below) ∙ are.count; definite = definite };
    over = λ pin known.
        subst (λ t. IsBelow t (value_at vector pin)) (are.each pin known) (below_at pins vector below pin (subst (λ n. pin < n) (sym are.count) known));
  }

  pub allowed : (vector : List Trit) → IsVectorOver chip u nets vector → get_or (allowed_for pins) (number_of vector) false ≡ true
  allowed vector over = over_is_allowed pins vector over.definite.definite (to_below vector over)

  pub number_known : (vector : List Trit) → IsVectorOver chip u nets vector → number_of vector < 2 ^ inputs_at chip u
  number_known vector over = subst (λ n. number_of vector < 2 ^ n) over.definite.count (number_within vector)

  pub vector_is : (vector : List Trit) → IsVectorOver chip u nets vector → vector_of (inputs_at chip u) (number_of vector) ≡ vector
  vector_is vector over = ap (λ n. vector_of n (number_of vector)) (sym over.definite.count) ∙ vector_again vector over.definite.definite

  pub some_over : List Trit
  some_over = (some_vector pins).vector

  pub some_is_over : IsVectorOver chip u nets some_over
  unfolding some_over
  some_is_over = from_below (some_vector pins).vector (some_vector pins).definite (some_vector pins).below

-- the first value at an output
module _ (chip : Chip) (u output : ℕ) (nets pins values : List Trit) (are : ArePins chip u nets pins) (rows : AreGoodRows (cell_at chip u) values)
    (known : output < outputs_at chip u) where
  abbrev first_good : ℕ → Trit
  first_good vector = good_at values (2 ^ inputs_at chip u) (outputs_at chip u) vector vector output

  abbrev pub first_choice : Choice
  first_choice = given_by (allowed_for pins) first_good (2 ^ inputs_at chip u)

  first_ends : List Trit → Trit → Type 0
  first_ends vector v = CellEndsAt (circuit_at chip u) vector vector (2 + inputs_at chip u + output) v

  first_is_good : (vector : List Trit) → IsVectorOver chip u nets vector → IsEndValue (first_ends vector) (first_good (number_of vector))
  unfolding first_ends
  first_is_good vector over =
      let fits = number_known chip u nets pins are vector over in
      subst (λ a. IsEndValue (CellEndsAt (circuit_at chip u) a a (2 + inputs_at chip u + output)) (first_good (number_of vector)))
      (vector_is chip u nets pins are vector over) (rows.each (number_of vector) (number_of vector) output fits fits known)

  first_covers : (vector : List Trit) (v : Trit) → IsVectorOver chip u nets vector → may_be (choice_for (first_good (number_of vector))) v ≡ true → may_be first_choice v ≡ true
  first_covers vector v over may =
      given_has (allowed_for pins) first_good (2 ^ inputs_at chip u) (number_of vector) v (number_known chip u nets pins are vector over) (allowed chip u nets pins are vector over) may

  first_comes : (v : Trit) → may_be first_choice v ≡ true → RowWith (IsVectorOver chip u nets) (λ vector. first_good (number_of vector)) v
  first_comes v may =
      let one = given_is_from (allowed_for pins) first_good (2 ^ inputs_at chip u) v may in
      let has = allowed_is_over pins one.number one.is_allowed in
      record {
        row = has.vector;
        over = from_below chip u nets pins are has.vector has.definite has.below;
        may = subst (λ n. may_be (choice_for (first_good n)) v ≡ true) (sym has.number) one.may;
      }

  pub first_is_common : IsCommon (FirstRowsGive chip u nets output) (trit_for first_choice)
  unfolding first_ends
  first_is_common = is_common (IsVectorOver chip u nets) (λ vector. first_good (number_of vector)) first_ends first_choice first_covers first_comes
      (some_over chip u nets pins are) (some_is_over chip u nets pins are) first_is_good

  pub first_is_shown : choice_for (trit_for first_choice) ≡ first_choice
  first_is_shown = is_shown (IsVectorOver chip u nets) (λ vector. first_good (number_of vector)) first_ends first_choice first_covers first_comes
      (some_over chip u nets pins are) (some_is_over chip u nets pins are) first_is_good

-- what is given by the same is common to the same
pub common_same : (A B : Trit → Type 0) → ((v : Trit) → A v ↔ B v) → (t : Trit) → IsCommon A t → IsCommon B t
common_same A B same Zero common = (same Zero).0 common
common_same A B same One common = (same One).0 common
common_same A B same X common = (λ b. common.0 ((same Zero).1 b), λ b. common.1 ((same One).1 b))

-- a first vector and a last one
record Two : Type 0 where
  pub first : List Trit
  pub last : List Trit

-- the last value at an output
module _ (chip : Chip) (u output : ℕ) (firsts lasts first_pins last_pins values : List Trit) (are_first : ArePins chip u firsts first_pins)
    (are_last : ArePins chip u lasts last_pins) (rows : AreGoodRows (cell_at chip u) values) (known : output < outputs_at chip u) where
  abbrev last_good : ℕ → ℕ → Trit
  last_good first last = good_at values (2 ^ inputs_at chip u) (outputs_at chip u) first last output

  abbrev pub last_choice : Choice
  last_choice = given_by_rows (allowed_for first_pins) (allowed_for last_pins) last_good (2 ^ inputs_at chip u) (2 ^ inputs_at chip u)

  last_ends : Two → Trit → Type 0
  last_ends two v = CellEndsAt (circuit_at chip u) two.first two.last (2 + inputs_at chip u + output) v

  last_over : Two → Type 0
  last_over two = IsVectorOver chip u firsts two.first × IsVectorOver chip u lasts two.last

  abbrev two_good : Two → Trit
  two_good two = last_good (number_of two.first) (number_of two.last)

  last_is_good : (two : Two) → last_over two → IsEndValue (last_ends two) (two_good two)
  unfolding last_ends last_over
  last_is_good two over =
      subst (λ a. IsEndValue (CellEndsAt (circuit_at chip u) a two.last (2 + inputs_at chip u + output)) (two_good two)) (vector_is chip u firsts first_pins are_first two.first over.0)
      (subst (λ b. IsEndValue (CellEndsAt (circuit_at chip u) (vector_of (inputs_at chip u) (number_of two.first)) b (2 + inputs_at chip u + output)) (two_good two))
      (vector_is chip u lasts last_pins are_last two.last over.1)
      (rows.each (number_of two.first) (number_of two.last) output (number_known chip u firsts first_pins are_first two.first over.0)
      (number_known chip u lasts last_pins are_last two.last over.1) known))

  last_covers : (two : Two) (v : Trit) → last_over two → may_be (choice_for (two_good two)) v ≡ true → may_be last_choice v ≡ true
  unfolding last_over
  last_covers two v over may =
      rows_have (allowed_for first_pins) (allowed_for last_pins) last_good (2 ^ inputs_at chip u) (2 ^ inputs_at chip u) (number_of two.first) (number_of two.last) v
      (number_known chip u firsts first_pins are_first two.first over.0) (number_known chip u lasts last_pins are_last two.last over.1)
      (allowed chip u firsts first_pins are_first two.first over.0) (allowed chip u lasts last_pins are_last two.last over.1) may

  last_comes : (v : Trit) → may_be last_choice v ≡ true → RowWith last_over two_good v
  unfolding last_over
  last_comes v may =
      let one = rows_are_from (allowed_for first_pins) (allowed_for last_pins) last_good (2 ^ inputs_at chip u) (2 ^ inputs_at chip u) v may in
      let a = allowed_is_over first_pins one.first one.is_allowed in
      let b = allowed_is_over last_pins one.last.number one.last.is_allowed in
      record {
        row = record { first = a.vector; last = b.vector };
        over = (from_below chip u firsts first_pins are_first a.vector a.definite a.below, from_below chip u lasts last_pins are_last b.vector b.definite b.below);
        may = subst (λ n. may_be (choice_for (last_good n (number_of b.vector))) v ≡ true) (sym a.number)
            (subst (λ n. may_be (choice_for (last_good one.first n)) v ≡ true) (sym b.number) one.last.may);
      }

  some_two : Two
  some_two = record { first = some_over chip u firsts first_pins are_first; last = some_over chip u lasts last_pins are_last }

  some_two_over : last_over some_two
  unfolding last_over some_two
  some_two_over = (some_is_over chip u firsts first_pins are_first, some_is_over chip u lasts last_pins are_last)

  uncurried : IsCommon (λ v. (two : Two) → last_over two → last_ends two v) (trit_for last_choice)
  uncurried = is_common last_over two_good last_ends last_choice last_covers last_comes some_two some_two_over last_is_good

  pub last_is_common : IsCommon (LastRowsGive chip u firsts lasts output) (trit_for last_choice)
  unfolding last_over last_ends
  last_is_common = common_same (λ v. (two : Two) → last_over two → last_ends two v) (LastRowsGive chip u firsts lasts output)
      (λ v. (λ all a b over_first over_last. all (record { first = a; last = b }) (over_first, over_last), λ all two over. all two.first two.last over.0 over.1))
      (trit_for last_choice) uncurried

  pub last_is_shown : choice_for (trit_for last_choice) ≡ last_choice
  last_is_shown = is_shown last_over two_good last_ends last_choice last_covers last_comes some_two some_two_over last_is_good
