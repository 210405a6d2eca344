-- The fields of a record, and the ratio that they are.
use Rattle.std.proofs.Common.{◌≡◌, ◌≢◌, ℕ, zero, suc, ◌<◌, ◌≤◌, ◌*◌, ◌^◌, false, List, [], ◌∷◌, length, ap, arith, refl}
use Rattle.std.specs.Prelude.{Some, None, ◌&&◌, codes, slice_index_or}
use Rattle.std.specs.Str.{bytes_eq}
use Rattle.std.proofs.lemmas.Nat.{mul-lt}
use Rattle.csv.specs.Records.{field_at}
use Rattle.ca_cell.specs.declared.strength.Ratio.{Ratio}
use Rattle.ca_strengths.specs.StrengthText.{is_header, ratio_with, ratio_in, table_with}
use Rattle.ca_csv.specs.Fields.{AreTwo}

-- which two fields are a header
pub header_of_two : (xs : List (List ℕ)) (one other : List ℕ) → AreTwo xs one other
    → is_header xs ≡ (bytes_eq one (codes "width") && bytes_eq other (codes "length"))
unfolding is_header
header_of_two xs one other are = ap is_header are

pub no_header_of_others : (xs : List (List ℕ)) → length xs ≢ 2 → is_header xs ≡ false
unfolding is_header
no_header_of_others [] other = refl
no_header_of_others (x ∷ []) other = refl
no_header_of_others (x ∷ y ∷ []) other = absurd (other (omega arith))
no_header_of_others (x ∷ y ∷ z ∷ zs) other = refl

-- a record of other than two fields is no ratio
pub no_ratio : (xs : List (List ℕ)) → length xs ≢ 2 → ratio_in xs ≡ None
unfolding ratio_in
no_ratio [] other = refl
no_ratio (x ∷ []) other = refl
no_ratio (x ∷ y ∷ []) other = absurd (other (omega arith))
no_ratio (x ∷ y ∷ z ∷ zs) other = refl

pub two_ratio : (xs : List (List ℕ)) (one other : List ℕ) → AreTwo xs one other → ratio_in xs ≡ ratio_with one other
unfolding ratio_in
two_ratio xs one other are = ap ratio_in are

-- the product of two words of 32 bits
pub product_fits : (a b : ℕ) → a < 2 ^ 32 → b < 2 ^ 32 → a * b < 2 ^ 64
product_fits a b one other = mul-lt a b (2 ^ 32) (2 ^ 32) one other

-- five ratios are a table, and no other number of them is
pub few_none : (xs : List Ratio) → length xs < 5 → table_with xs ≡ None
unfolding table_with
few_none [] few = refl
few_none (a ∷ []) few = refl
few_none (a ∷ b ∷ []) few = refl
few_none (a ∷ b ∷ c ∷ []) few = refl
few_none (a ∷ b ∷ c ∷ d ∷ []) few = refl
few_none (a ∷ b ∷ c ∷ d ∷ e ∷ more) few = absurd (omega (arith, few))

pub many_none : (xs : List Ratio) → 6 ≤ length xs → table_with xs ≡ None
unfolding table_with
many_none [] many = refl
many_none (a ∷ []) many = refl
many_none (a ∷ b ∷ []) many = refl
many_none (a ∷ b ∷ c ∷ []) many = refl
many_none (a ∷ b ∷ c ∷ d ∷ []) many = refl
many_none (a ∷ b ∷ c ∷ d ∷ e ∷ []) many = absurd (omega (arith, many))
many_none (a ∷ b ∷ c ∷ d ∷ e ∷ f ∷ more) many = refl

pub five : (xs : List Ratio) (z : Ratio) → 5 ≤ length xs → length xs < 6
    → Some (record {
      first = slice_index_or xs 0 z;
      second = slice_index_or xs 1 z;
      third = slice_index_or xs 2 z;
      fourth = slice_index_or xs 3 z;
      fifth = slice_index_or xs 4 z;
    }) ≡ table_with xs
unfolding table_with
five [] z many few = absurd (omega (arith, many))
five (a ∷ []) z many few = absurd (omega (arith, many))
five (a ∷ b ∷ []) z many few = absurd (omega (arith, many))
five (a ∷ b ∷ c ∷ []) z many few = absurd (omega (arith, many))
five (a ∷ b ∷ c ∷ d ∷ []) z many few = absurd (omega (arith, many))
five (a ∷ b ∷ c ∷ d ∷ e ∷ []) z many few = refl
five (a ∷ b ∷ c ∷ d ∷ e ∷ f ∷ more) z many few = absurd (omega (arith, few))
