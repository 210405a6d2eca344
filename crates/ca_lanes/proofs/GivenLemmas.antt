-- What the allowed rows give may be a value exactly where some allowed row may give it.
use Rattle.std.proofs.Common.{◌≡◌, ℕ, zero, suc, ◌<◌, ◌≤◌, ◌⊎◌, Bool, true, false, ◌&&◌, ◌||◌, List, get_or}
use Rattle.std.proofs.Common.{inl, inr, refl, sym, ◌∙◌, subst, arith}
use Rattle.std.proofs.lemmas.Bool.{cases_lt}
use Rattle.ca_net.specs.declared.trit.Trit.{Trit}
use Rattle.ca_net.specs.declared.trit.Trit.TheVariants.{Zero, One, X}
use Rattle.ca_lanes.specs.Choice.{Choice, no_choice, choice_for}
use Rattle.ca_lanes.specs.code.Choice.{either_choice, choice_over}
use Rattle.ca_lanes.specs.code.Given.{given_by, given_by_rows}

-- whether the choice may be this value
abbrev pub may_be : Choice → Trit → Bool
may_be choice Zero = choice.zero
may_be choice One = choice.one
may_be choice X = false

may_be_either : (a b : Choice) (v : Trit) → may_be (either_choice a b) v ≡ (may_be a v || may_be b v)
may_be_either a b Zero = refl
may_be_either a b One = refl
may_be_either a b X = refl

may_be_over : (allowed : Bool) (a : Choice) (v : Trit) → may_be (choice_over allowed a) v ≡ (allowed && may_be a v)
may_be_over allowed a Zero = refl
may_be_over allowed a One = refl
may_be_over true a X = refl
may_be_over false a X = refl

may_be_none : (v : Trit) → may_be no_choice v ≡ false
may_be_none Zero = refl
may_be_none One = refl
may_be_none X = refl

either_is : (a b : Bool) → (a || b) ≡ true → (a ≡ true) ⊎ (b ≡ true)
either_is true b h = inl refl
either_is false b h = inr h

pub and_first : (a b : Bool) → (a && b) ≡ true → a ≡ true
and_first true b h = refl
and_first false b h = h

pub and_second : (a b : Bool) → (a && b) ≡ true → b ≡ true
and_second true b h = h
and_second false b h = let no : ⊥ = cc in absurd no

or_true : (a : Bool) → (a || true) ≡ true
or_true true = refl
or_true false = refl

-- a vector that may give the value
pub record GivesOne (allowed : List Bool) (value : ℕ → Trit) (count : ℕ) (v : Trit) : Type 0 where
  pub number : ℕ
  pub within : number < count
  pub is_allowed : get_or allowed number false ≡ true
  pub may : may_be (choice_for (value number)) v ≡ true

pub given_is_from : (allowed : List Bool) (value : ℕ → Trit) (count : ℕ) (v : Trit) → may_be (given_by allowed value count) v ≡ true → GivesOne allowed value count v
unfolding given_by
given_is_from allowed value zero v may = let none = may_be_none v in let no : ⊥ = cc in absurd no
given_is_from allowed value (suc count) v may =
    elim (either_is (may_be (given_by allowed value count) v) (may_be (choice_over (get_or allowed count false) (choice_for (value count))) v)
    (sym (may_be_either (given_by allowed value count) (choice_over (get_or allowed count false) (choice_for (value count))) v) ∙ may)) [
      | inl before ↦
          let one = given_is_from allowed value count v before in
          record { number = one.number; within = omega (arith, one.within); is_allowed = one.is_allowed; may = one.may }
      | inr here ↦
          let both = sym (may_be_over (get_or allowed count false) (choice_for (value count)) v) ∙ here in
          record {
            number = count;
            within = omega arith;
            is_allowed = and_first _ _ both;
            may = and_second _ _ both;
          }
    ]

pub given_has : (allowed : List Bool) (value : ℕ → Trit) (count number : ℕ) (v : Trit) → number < count → get_or allowed number false ≡ true
    → may_be (choice_for (value number)) v ≡ true → may_be (given_by allowed value count) v ≡ true
unfolding given_by
given_has allowed value zero number v within is_allowed may = let no : ⊥ = omega (arith, within) in absurd no
given_has allowed value (suc count) number v within is_allowed may =
    may_be_either (given_by allowed value count) (choice_over (get_or allowed count false) (choice_for (value count))) v
    ∙ at (λ before. given_has allowed value count number v before is_allowed may) (cases_lt number count)
  where
    at : (number < count → may_be (given_by allowed value count) v ≡ true) → (number < count) ⊎ (count ≤ number)
        → (may_be (given_by allowed value count) v || may_be (choice_over (get_or allowed count false) (choice_for (value count))) v) ≡ true
    at known (inl before) = rw (known before) refl
    at known (inr past) =
        let same : number ≡ count = omega (arith, within, past) in
        let here : may_be (choice_over (get_or allowed count false) (choice_for (value count))) v ≡ true =
        may_be_over (get_or allowed count false) (choice_for (value count)) v
        ∙ subst (λ n. (get_or allowed n false && may_be (choice_for (value n)) v) ≡ true) same (rw (is_allowed, may) refl) in
        rw here (or_true (may_be (given_by allowed value count) v))

-- a row that may give the value
pub record GivesRow (firsts lasts : List Bool) (value : ℕ → ℕ → Trit) (count rows : ℕ) (v : Trit) : Type 0 where
  pub first : ℕ
  pub within : first < rows
  pub is_allowed : get_or firsts first false ≡ true
  pub last : GivesOne lasts (value first) count v

pub rows_are_from : (firsts lasts : List Bool) (value : ℕ → ℕ → Trit) (count rows : ℕ) (v : Trit)
    → may_be (given_by_rows firsts lasts value count rows) v ≡ true → GivesRow firsts lasts value count rows v
unfolding given_by_rows
rows_are_from firsts lasts value count zero v may = let none = may_be_none v in let no : ⊥ = cc in absurd no
rows_are_from firsts lasts value count (suc rows) v may =
    elim (either_is (may_be (given_by_rows firsts lasts value count rows) v) (may_be (choice_over (get_or firsts rows false) (given_by lasts (value rows) count)) v)
    (sym (may_be_either (given_by_rows firsts lasts value count rows) (choice_over (get_or firsts rows false) (given_by lasts (value rows) count)) v) ∙ may)) [
      | inl before ↦
          let one = rows_are_from firsts lasts value count rows v before in
          record { first = one.first; within = omega (arith, one.within); is_allowed = one.is_allowed; last = one.last }
      | inr here ↦
          let both = sym (may_be_over (get_or firsts rows false) (given_by lasts (value rows) count) v) ∙ here in
          record {
            first = rows;
            within = omega arith;
            is_allowed = and_first _ _ both;
            last = given_is_from lasts (value rows) count v (and_second (get_or firsts rows false) _ both);
          }
    ]

pub rows_have : (firsts lasts : List Bool) (value : ℕ → ℕ → Trit) (count rows first last : ℕ) (v : Trit) → first < rows → last < count
    → get_or firsts first false ≡ true → get_or lasts last false ≡ true → may_be (choice_for (value first last)) v ≡ true
    → may_be (given_by_rows firsts lasts value count rows) v ≡ true
unfolding given_by_rows
rows_have firsts lasts value count zero first last v within known is_first is_last may = let no : ⊥ = omega (arith, within) in absurd no
rows_have firsts lasts value count (suc rows) first last v within known is_first is_last may =
    may_be_either (given_by_rows firsts lasts value count rows) (choice_over (get_or firsts rows false) (given_by lasts (value rows) count)) v
    ∙ at (λ before. rows_have firsts lasts value count rows first last v before known is_first is_last may) (cases_lt first rows)
  where
    at : (first < rows → may_be (given_by_rows firsts lasts value count rows) v ≡ true) → (first < rows) ⊎ (rows ≤ first)
        → (may_be (given_by_rows firsts lasts value count rows) v || may_be (choice_over (get_or firsts rows false) (given_by lasts (value rows) count)) v) ≡ true
    at earlier (inl before) = rw (earlier before) refl
    at earlier (inr past) =
        let same : first ≡ rows = omega (arith, within, past) in
        let here : may_be (choice_over (get_or firsts rows false) (given_by lasts (value rows) count)) v ≡ true =
        may_be_over (get_or firsts rows false) (given_by lasts (value rows) count) v
        ∙ subst (λ n. (get_or firsts n false && may_be (given_by lasts (value n) count) v) ≡ true) same
        (rw (is_first, given_has lasts (value first) count last v known is_last may) refl) in
        rw here (or_true (may_be (given_by_rows firsts lasts value count rows) v))
