-- Names in quotes: what is written is found again.
use Rattle.std.proofs.Common.{◌≡◌, ℕ, ◌==◌, Bool, true, false, not, ◌&&◌, ◌||◌, List, [], ◌∷◌, ◌++◌, length}
use Rattle.std.proofs.Common.{Some, None, refl, sym, ap, ◌∙◌, arith, append_assoc}
use Rattle.std.specs.Prelude.{nat_le, if◌then◌else◌}
use Rattle.std.specs.List.{list_all, list_any}
use Rattle.std.specs.Str.{bytes_eq}
use Rattle.std.proofs.lemmas.Slice.Eq.{bytes_eq-Decides}
use Rattle.std.proofs.lemmas.Bool.{eq-eqb}
use Rattle.ca_stil_form.specs.Frame.{Signal, Names, is_name_byte, is_name, quoted, joined_more, group_word}
use Rattle.ca_stil_form.specs.Frame.{quoted_from, goes, names_of, is_among, all_in, is_group, fits_in_order}
use Rattle.ca_stil_form.specs.Frame.{fits_in_number}
use Rattle.ca_stil_form.proofs.FormLemmas.{left_true, right_true}

no_quote : (byte : ℕ) → is_name_byte byte ≡ true → (byte == 34) ≡ false
no_quote byte is = by (byte == 34) (right_true (nat_le 33 byte && nat_le byte 126) (not (byte == 34)) is)
  where
    by : (test : Bool) → not test ≡ true → test ≡ false
    by true is = absurd cc
    by false is = refl

-- a name up to its closing quote
quoted_inside : (text name rest : List ℕ) → list_all is_name_byte name ≡ true
    → quoted_from (Some text) (name ++ 34 ∷ rest) ≡ (text ++ name) ∷ quoted_from None rest
unfolding quoted_from
quoted_inside text [] rest is = ap (λ (given : List ℕ). given ∷ quoted_from None rest) (sym (nothing_after text))
  where
    nothing_after : (xs : List ℕ) → xs ++ [] ≡ xs
    nothing_after [] = refl
    nothing_after (x ∷ xs) = ap (λ (rest : List ℕ). x ∷ rest) (nothing_after xs)
quoted_inside text (byte ∷ name) rest is =
    (λ j. (if no_quote byte (left_true (is_name_byte byte) (list_all is_name_byte name) is) j then text ∷ [] else [])
    ++ quoted_from (if no_quote byte (left_true (is_name_byte byte) (list_all is_name_byte name) is) j then None else Some (text ++ byte ∷ [])) (name ++ 34 ∷ rest))
    ∙ quoted_inside (text ++ byte ∷ []) name rest (right_true (is_name_byte byte) (list_all is_name_byte name) is)
    ∙ ap (λ (given : List ℕ). given ∷ quoted_from None rest) (append_assoc text (byte ∷ []) name)

name_bytes : (name : List ℕ) → is_name name ≡ true → list_all is_name_byte name ≡ true
name_bytes name is = right_true (not (length name == 0)) (list_all is_name_byte name) is

pub quoted_name : (name : List ℕ) → is_name name ≡ true → quoted_from None (quoted name) ≡ name ∷ []
unfolding quoted_from
quoted_name name is = quoted_inside [] name [] (name_bytes name is)

members_found : (names : Names) → list_all is_name names ≡ true → quoted_from None (joined_more names ++ 39 ∷ []) ≡ names
unfolding quoted_from joined_more
members_found [] is = refl
members_found (name ∷ names) is =
    ap (λ (given : List ℕ). quoted_from (Some []) given)
    (append_assoc (name ++ 34 ∷ []) (joined_more names) (39 ∷ []) ∙ append_assoc name (34 ∷ []) (joined_more names ++ 39 ∷ []))
    ∙ quoted_inside [] name (joined_more names ++ 39 ∷ []) (name_bytes name (left_true (is_name name) (list_all is_name names) is))
    ∙ ap (λ (given : Names). name ∷ given) (members_found names (right_true (is_name name) (list_all is_name names) is))

pub group_found : (names : Names) → list_all is_name names ≡ true → quoted_from None (group_word names) ≡ names
unfolding quoted_from
group_found [] is = refl
group_found (name ∷ names) is =
    ap (λ (given : List ℕ). quoted_from (Some []) given)
    (append_assoc (name ++ 34 ∷ []) (joined_more names) (39 ∷ []) ∙ append_assoc name (34 ∷ []) (joined_more names ++ 39 ∷ []))
    ∙ quoted_inside [] name (joined_more names ++ 39 ∷ []) (name_bytes name (left_true (is_name name) (list_all is_name names) is))
    ∙ ap (λ (given : Names). name ∷ given) (members_found names (right_true (is_name name) (list_all is_name names) is))

pub group_named : (names : Names) → is_group names ≡ true → list_all is_name names ≡ true
group_named names is = right_true (not (length names == 0)) (list_all is_name names) is

-- a group of one name that comes first
pub first_fits : (name : List ℕ) (names : Names) → is_name name ≡ true → fits_in_order (name ∷ names) (name ∷ []) ≡ true
unfolding is_among
first_fits name names is = λ j. (is j && true) && elim ((bytes_eq-Decides name name).1 refl j) [ true ↦ true | false ↦ is_among (name ∷ []) names ]

same_name : (name : List ℕ) (names : Names) → list_any (bytes_eq name) (name ∷ names) ≡ true
same_name name names = by (bytes_eq name name) ((bytes_eq-Decides name name).1 refl)
  where
    by : (test : Bool) → test ≡ true → (test || list_any (bytes_eq name) names) ≡ true
    by true is = refl
    by false is = absurd cc

-- this name for each of these
unfoldable pub one_for_each : List ℕ → Names → Names
one_for_each name [] = []
one_for_each name (other ∷ others) = name ∷ one_for_each name others

each_named : (name : List ℕ) (others : Names) → is_name name ≡ true → list_all is_name (one_for_each name others) ≡ true
unfolding one_for_each
each_named name [] is = refl
each_named name (other ∷ others) is = λ j. is j && each_named name others is j

each_in : (name : List ℕ) (names others : Names) → all_in (name ∷ names) (one_for_each name others) ≡ true
unfolding one_for_each
each_in name names [] = refl
each_in name names (other ∷ others) = λ j. same_name name names j && each_in name names others j

each_counted : (name : List ℕ) (others : Names) → length (one_for_each name others) ≡ length others
unfolding one_for_each
each_counted name [] = refl
each_counted name (other ∷ others) = omega (arith, each_counted name others)

pub each_fits : (name : List ℕ) (names others : Names) → is_name name ≡ true → (length others == 0) ≡ false
    → fits_in_number (length others) (name ∷ names) (one_for_each name others) ≡ true
each_fits name names others is some =
    let same : (length (one_for_each name others) == 0) ≡ (length others == 0) = ap (λ (n : ℕ). n == 0) (each_counted name others) in
    let there : not (length (one_for_each name others) == 0) ≡ true = ap not (same ∙ some) in
    let counted : (length (one_for_each name others) == length others) ≡ true = eq-eqb (length (one_for_each name others)) (length others) (each_counted name others) in
    λ j. (there j && each_named name others is j) && (counted j && each_in name names others j)

-- the names of signals are names
pub names_named : (input : Bool) (signals : List Signal) → list_all (λ (signal : Signal). is_name signal.0) signals ≡ true → list_all is_name (names_of input signals) ≡ true
unfolding names_of
names_named input [] is = refl
names_named input (signal ∷ signals) is =
    by (goes input signal) (names_named input signals (right_true (is_name signal.0) (list_all (λ (signal : Signal). is_name signal.0) signals) is))
  where
    by : (test : Bool) → list_all is_name (names_of input signals) ≡ true
        → list_all is_name (if test then signal.0 ∷ names_of input signals else names_of input signals) ≡ true
    by true later = λ j. left_true (is_name signal.0) (list_all (λ (signal : Signal). is_name signal.0) signals) is j && later j
    by false later = later
