-- What is found in a list passes the test and keeps what all entries keep.
use Rattle.std.proofs.Common.{◌≡◌, ℕ, List, Bool, true, false, [], ◌∷◌, ◌++◌, length, refl, sym, ◌∙◌, ap}
use Rattle.std.proofs.Common.{subst, true≢false}
use Rattle.std.specs.Prelude.{cond, Option, Some, None, IfSome, IfNone, IsTrue, is_some, find}
use Rattle.std.specs.List.{All}
use Rattle.std.proofs.lemmas.List.Elements.{All-nil, All-cons, All-head, All-tail}
use Rattle.std.proofs.lemmas.Option.{same_Some}
use Rattle.std.specs.Option.{option_or}
use Rattle.std.specs.Str.{bytes_eq}
use Rattle.std.proofs.lemmas.List.Folds.{find-append}
use Rattle.std.proofs.lemmas.Slice.Eq.{bytes_eq-Decides}
use Rattle.ca_lex.specs.Words.{upper_case}
use Rattle.ca_cell.specs.declared.raw.RawCell.{RawCell}
use Rattle.ca_cell.specs.declared.defect.Defect.{Defect}
use Rattle.ca_cell.specs.Raw.{is_input, role_count, circuit_of}
use Rattle.ca_cell.specs.List.{each_from, device_opens, pin_open, shorts_of, defects_of, IsDefectOf}
use Rattle.ca_cell.specs.Name.{name_of, is_called}
use Rattle.ca_cell.proofs.MemberLemmas.{all_listed}

-- what is found passes the test, and keeps what all entries keep
found_kept : {T : Type 0} (test : T → Bool) (P : T → Type 0) (xs : List T) (x : T) → All P xs → find test xs ≡ Some x → (test x ≡ true) × P x
found_kept test P [] x all found = cc
found_kept {T} test P (first ∷ xs) x all found = by (test first) refl (λ later. found_kept test P xs x (All-tail P first xs all) later)
  where
    by : (b : Bool) → test first ≡ b → (find test xs ≡ Some x → (test x ≡ true) × P x) → (test x ≡ true) × P x
    by true passes rest =
        let same : first ≡ x = same_Some first x (sym (ap (λ b. cond b (Some first) (find test xs)) passes) ∙ found) in
        (ap test (sym same) ∙ passes, subst P same (All-head P first xs all))
    by false fails rest = rest (sym (ap (λ b. cond b (Some first) (find test xs)) fails) ∙ found)

-- where nothing is found, each entry fails the test
none_found : {T : Type 0} (test : T → Bool) (xs : List T) → find test xs ≡ None → All (λ x. test x ≡ true → ⊥) xs
none_found test [] none = All-nil (λ x. test x ≡ true → ⊥)
none_found {T} test (first ∷ xs) none = by (test first) refl (λ later. none_found test xs later)
  where
    by : (b : Bool) → test first ≡ b → (find test xs ≡ None → All (λ x. test x ≡ true → ⊥) xs) → All (λ x. test x ≡ true → ⊥) (first ∷ xs)
    by true passes rest =
        let found : Some first ≡ None = sym (ap (λ b. cond b (Some first) (find test xs)) passes) ∙ none in
        cc
    by false fails rest =
        All-cons (λ x. test x ≡ true → ⊥) first xs (λ passes. true≢false (sym passes ∙ fails))
        (rest (sym (ap (λ b. cond b (Some first) (find test xs)) fails) ∙ none))

-- the defect that a text names
pub named_defect : (raw : RawCell) (text : List ℕ) (result : Option Defect) → result ≡ find (is_called raw text) (defects_of raw)
    → IfSome result (λ defect. name_of raw defect ≡ upper_case text)
named_defect raw text None is = tt
named_defect raw text (Some defect) is =
    let kept = found_kept (is_called raw text) (IsDefectOf raw) (defects_of raw) defect (all_listed (circuit_of raw) (role_count is_input raw.pins)) (sym is) in
    (bytes_eq-Decides (name_of raw defect) (upper_case text)).0 kept.0

pub found_is_listed : (raw : RawCell) (text : List ℕ) (result : Option Defect) → result ≡ find (is_called raw text) (defects_of raw) → IfSome result (IsDefectOf raw)
found_is_listed raw text None is = tt
found_is_listed raw text (Some defect) is =
    (found_kept (is_called raw text) (IsDefectOf raw) (defects_of raw) defect (all_listed (circuit_of raw) (role_count is_input raw.pins)) (sym is)).1

-- a text that names none
pub no_name : (raw : RawCell) (text : List ℕ) (result : Option Defect) → result ≡ find (is_called raw text) (defects_of raw)
    → IfNone result (All (λ defect. name_of raw defect ≡ upper_case text → ⊥) (defects_of raw))
no_name raw text None is =
    let fails = none_found (is_called raw text) (defects_of raw) (sym is) in
    λ k d within same. fails k d within ((bytes_eq-Decides _ (upper_case text)).1 same)
no_name raw text (Some defect) is = tt

-- a test answers whether a text is a name where it holds exactly then
pub reports_name : (raw : RawCell) (text : List ℕ) (defect : Defect) (answer : Bool) → (IsTrue answer → name_of raw defect ≡ upper_case text)
    → (name_of raw defect ≡ upper_case text → IsTrue answer) → answer ≡ is_called raw text defect
reports_name raw text defect true only always = sym ((bytes_eq-Decides (name_of raw defect) (upper_case text)).1 (only refl))
reports_name raw text defect false only always = by (bytes_eq (name_of raw defect) (upper_case text)) refl
  where
    by : (b : Bool) → bytes_eq (name_of raw defect) (upper_case text) ≡ b → false ≡ b
    by true is = (always ((bytes_eq-Decides (name_of raw defect) (upper_case text)).0 is))
    by false is = refl

-- what is found in three lists, one after another, is found in all
find_in_three : (test : Defect → Bool) (opens pins shorts : List Defect) → find test (opens ++ (pins ++ shorts)) ≡ option_or (option_or (find test opens) (find test pins)) (find test shorts)
find_in_three test opens pins shorts =
    find-append test opens (pins ++ shorts) ∙ ap (option_or (find test opens)) (find-append test pins shorts) ∙ regroup (find test opens)
  where
    regroup : (o : Option Defect) → option_or o (option_or (find test pins) (find test shorts)) ≡ option_or (option_or o (find test pins)) (find test shorts)
    regroup None = refl
    regroup (Some defect) = refl

-- the first open of a device, the first open of an input pin and the first short that has the name
abbrev named_open : RawCell → List ℕ → Option Defect
named_open raw text = find (is_called raw text) (each_from (device_opens (circuit_of raw).devices) 0 (length (circuit_of raw).devices))

abbrev named_pin : RawCell → List ℕ → Option Defect
named_pin raw text = find (is_called raw text) (each_from pin_open 0 (role_count is_input raw.pins))

abbrev named_short : RawCell → List ℕ → Option Defect
named_short raw text = find (is_called raw text) (each_from (shorts_of (length (circuit_of raw).nodes) (role_count is_input raw.pins)) 0 (length (circuit_of raw).nodes))

-- each in turn is the first defect that has the name, where there is none before
pub found_as_open : (raw : RawCell) (text : List ℕ) (found : Option Defect) → found ≡ named_open raw text → is_some found ≡ true
    → found ≡ find (is_called raw text) (defects_of raw)
found_as_open raw text found is some =
    here found some ∙ ap (λ o. option_or (option_or o (named_pin raw text)) (named_short raw text)) is
    ∙ sym (find_in_three (is_called raw text) _ _ _)
  where
    here : (o : Option Defect) → is_some o ≡ true → o ≡ option_or (option_or o (named_pin raw text)) (named_short raw text)
    here None never = cc
    here (Some defect) some = refl

pub found_as_pin : (raw : RawCell) (text : List ℕ) (opening found : Option Defect) → opening ≡ named_open raw text → is_some opening ≡ false
    → found ≡ named_pin raw text → is_some found ≡ true → found ≡ find (is_called raw text) (defects_of raw)
found_as_pin raw text opening found before none is some =
    here opening found none some ∙ ap (λ o. option_or (option_or o found) (named_short raw text)) before
    ∙ ap (λ o. option_or (option_or (named_open raw text) o) (named_short raw text)) is ∙ sym (find_in_three (is_called raw text) _ _ _)
  where
    here : (one other : Option Defect) → is_some one ≡ false → is_some other ≡ true
        → other ≡ option_or (option_or one other) (named_short raw text)
    here None None none never = cc
    here None (Some defect) none some = refl
    here (Some defect) other never some = cc

pub found_as_short : (raw : RawCell) (text : List ℕ) (opening pin found : Option Defect) → opening ≡ named_open raw text → is_some opening ≡ false
    → pin ≡ named_pin raw text → is_some pin ≡ false → found ≡ named_short raw text → found ≡ find (is_called raw text) (defects_of raw)
found_as_short raw text opening pin found before none next no_pin is =
    is ∙ here opening pin none no_pin ∙ ap (λ o. option_or (option_or o pin) (named_short raw text)) before
    ∙ ap (λ o. option_or (option_or (named_open raw text) o) (named_short raw text)) next ∙ sym (find_in_three (is_called raw text) _ _ _)
  where
    here : (one other : Option Defect) → is_some one ≡ false → is_some other ≡ false
        → named_short raw text ≡ option_or (option_or one other) (named_short raw text)
    here None None none no_other = refl
    here None (Some defect) none never = cc
    here (Some defect) other never no_other = cc
