-- Words of bits and of expected values.
use Rattle.std.proofs.Common.{◌≡◌, ℕ, zero, suc, ◌+◌, ◌≤◌, ◌==◌, Bool, true, false, ◌&&◌, ◌||◌, List, []}
use Rattle.std.proofs.Common.{◌∷◌, ◌++◌, length, map, take, drop}
use Rattle.std.proofs.Common.{Some, None, refl, sym, ap, ◌∙◌, arith, length-append}
use Rattle.std.specs.Prelude.{if◌then◌else◌, replicate}
use Rattle.std.specs.List.{list_all}
use Rattle.std.specs.Str.{bytes_eq}
use Rattle.std.proofs.lemmas.Bool.{eq-eqb, eqb-true}
use Rattle.std.proofs.lemmas.List.{length-replicate, length-map}
use Rattle.std.proofs.lemmas.Slice.Eq.{bytes_eq-Decides}
use Rattle.std.proofs.Math.Seq.{drop-append_seam, take-append_seam}
use Rattle.ca_net.specs.declared.trit.Trit.{Trit}
use Rattle.ca_net.specs.declared.trit.Trit.TheVariants.{Zero, One, X}
use Rattle.ca_stil_form.specs.Pattern.{digit_of, level_of, level_at}
use Rattle.ca_stil_read.specs.Plan.{bits_of, levels_of}
use Rattle.ca_stil_read.specs.code.Kept.{is_bit, is_one, is_level}

both_true : (one other : Bool) → (one && other) ≡ true → (one ≡ true) × (other ≡ true)
both_true true other is = (refl, is)
both_true false other is = absurd cc

-- a list is what stands before a place and after it
parts : {Value : Type 0} (count : ℕ) (list : List Value) → take count list ++ drop count list ≡ list
parts zero list = refl
parts (suc count) [] = refl
parts (suc count) (one ∷ list) = ap (λ (rest : List _). one ∷ rest) (parts count list)

length_taken : {Value : Type 0} (count : ℕ) (list : List Value) → count ≤ length list → length (take count list) ≡ count
length_taken zero list within = refl
length_taken (suc count) [] within = absurd (omega (arith, within))
length_taken (suc count) (one ∷ list) within = ap suc (length_taken count list (omega (arith, within)))

replicate_long : (letter count : ℕ) → length (replicate count letter) ≡ count
replicate_long letter count = length-replicate count letter

-- letters that are all the same
letters_are : (letter : ℕ) (text : List ℕ) → list_all (λ byte. byte == letter) text ≡ true → replicate (length text) letter ≡ text
letters_are letter [] is = refl
letters_are letter (byte ∷ text) is =
    let both = both_true (byte == letter) (list_all (λ byte. byte == letter) text) is in
    (λ j. sym (eqb-true byte letter both.0) j ∷ letters_are letter text both.1 j)

replicate_all : (letter count : ℕ) → list_all (λ byte. byte == letter) (replicate count letter) ≡ true
replicate_all letter zero = refl
replicate_all letter (suc count) = λ j. eq-eqb letter letter refl j && replicate_all letter count j

-- digits of bits
digit_is : (byte : ℕ) → is_bit byte ≡ true → digit_of (is_one byte) ≡ byte
digit_is byte is = by (byte == 49) refl (byte == 48) refl is
  where
    by : (one : Bool) → (byte == 49) ≡ one → (none : Bool) → (byte == 48) ≡ none → (none || one) ≡ true → digit_of one ≡ byte
    by true one none none_is is = sym (eqb-true byte 49 one)
    by false one true none_is is = sym (eqb-true byte 48 none_is)
    by false one false none_is is = absurd cc

digits_are : (text : List ℕ) → list_all is_bit text ≡ true → map digit_of (map is_one text) ≡ text
digits_are [] is = refl
digits_are (byte ∷ text) is =
    let both = both_true (is_bit byte) (list_all is_bit text) is in
    (λ j. digit_is byte both.0 j ∷ digits_are text both.1 j)

bits_all : (bits : List Bool) → list_all is_bit (map digit_of bits) ≡ true
bits_all [] = refl
bits_all (true ∷ bits) = bits_all bits
bits_all (false ∷ bits) = bits_all bits

-- letters of values
letter_is : (byte : ℕ) → is_level byte ≡ true → level_of (level_at byte) ≡ byte
letter_is byte is = by (byte == 76) refl (byte == 72) refl (byte == 88) refl is
  where
    by : (low : Bool) → (byte == 76) ≡ low → (high : Bool) → (byte == 72) ≡ high → (none : Bool) → (byte == 88) ≡ none
        → (low || high || none) ≡ true → level_of (if low then Zero else (if high then One else X)) ≡ byte
    by true low_is high high_is none none_is is = sym (eqb-true byte 76 low_is)
    by false low_is true high_is none none_is is = sym (eqb-true byte 72 high_is)
    by false low_is false high_is true none_is is = sym (eqb-true byte 88 none_is)
    by false low_is false high_is false none_is is = absurd cc

levels_are : (text : List ℕ) → list_all is_level text ≡ true → map level_of (map level_at text) ≡ text
levels_are [] is = refl
levels_are (byte ∷ text) is =
    let both = both_true (is_level byte) (list_all is_level text) is in
    (λ j. letter_is byte both.0 j ∷ levels_are text both.1 j)

levels_all : (levels : List Trit) → list_all is_level (map level_of levels) ≡ true
levels_all [] = refl
levels_all (Zero ∷ levels) = levels_all levels
levels_all (One ∷ levels) = levels_all levels
levels_all (X ∷ levels) = levels_all levels

-- what is spelled, or isn't
some_where : {Value : Type 0} (test : Bool) (value : Value) → test ≡ true → (if test then Some value else None) ≡ Some value
some_where true value is = refl
some_where false value is = absurd cc

none_where : {Value : Type 0} (test : Bool) (value : Value) → (test ≡ true → ⊥) → (if test then Some value else None) ≡ None
none_where true value not = absurd (not refl)
none_where false value not = refl

-- a word of bits is known by four tests
pub bits_some : (used filled : ℕ) (token fill digits : List ℕ) → filled ≤ length token → fill ≡ take filled token → digits ≡ drop filled token
    → length digits ≡ used → list_all (λ byte. byte == 48) fill ≡ true → list_all is_bit digits ≡ true
    → bits_of used filled token ≡ Some (map is_one digits)
bits_some used filled token fill digits within fill_is digits_is counted zeros bits =
    some_where _ (map is_one (drop filled token))
    (λ j. counted_is j && spelled_is j)
    ∙ ap (λ (given : List ℕ). Some (map is_one given)) (sym digits_is)
  where
    counted_is : (length (map is_one (drop filled token)) == used) ≡ true
    counted_is = eq-eqb (length (map is_one (drop filled token))) used
        (length-map (drop filled token) is_one ∙ ap length (sym digits_is) ∙ counted)

    same : replicate filled 48 ++ map digit_of (map is_one (drop filled token)) ≡ token
    same =
        (λ j. replicate (sym (length_taken filled token within) j) 48 ++ map digit_of (map is_one (drop filled token)))
        ∙ (λ j. letters_are 48 (take filled token) (ap (list_all (λ byte. byte == 48)) (sym fill_is) ∙ zeros) j
        ++ digits_are (drop filled token) (ap (list_all is_bit) (sym digits_is) ∙ bits) j)
        ∙ parts filled token

    spelled_is : bytes_eq (replicate filled 48 ++ map digit_of (map is_one (drop filled token))) token ≡ true
    spelled_is = (bytes_eq-Decides (replicate filled 48 ++ map digit_of (map is_one (drop filled token))) token).1 same

-- what holds of a word that spells bits
pub record IsBitsWord (used filled : ℕ) (token : List ℕ) : Type 0 where
  pub within : filled ≤ length token
  pub counted : length (drop filled token) ≡ used
  pub total : length token ≡ filled + used
  pub zeros : list_all (λ byte. byte == 48) (take filled token) ≡ true
  pub bits : list_all is_bit (drop filled token) ≡ true

bits_true : (used filled : ℕ) (token : List ℕ)
    → ((length (map is_one (drop filled token)) == used) && bytes_eq (replicate filled 48 ++ map digit_of (map is_one (drop filled token))) token) ≡ true
    → IsBitsWord used filled token
bits_true used filled token is =
    let look : List Bool = map is_one (drop filled token) in
    let both = both_true (length look == used) (bytes_eq (replicate filled 48 ++ map digit_of look) token) is in
    let same : replicate filled 48 ++ map digit_of look ≡ token = (bytes_eq-Decides (replicate filled 48 ++ map digit_of look) token).0 both.1 in
    let counted : length look ≡ used = eqb-true (length look) used both.0 in
    let zeros_long : length (replicate filled 48) ≡ filled = replicate_long 48 filled in
    let total : length token ≡ filled + used =
    ap length (sym same) ∙ length-append (replicate filled 48) (map digit_of look)
    ∙ (λ j. zeros_long j + (length-map look digit_of ∙ counted) j) in
    let front : take filled token ≡ replicate filled 48 =
    (λ j. take (sym zeros_long j) (sym same j)) ∙ take-append_seam (replicate filled 48) (map digit_of look) in
    let back : drop filled token ≡ map digit_of look =
    (λ j. drop (sym zeros_long j) (sym same j)) ∙ drop-append_seam (replicate filled 48) (map digit_of look) in
    let within : filled ≤ length token = omega (arith, total) in
    record {
      within = within;
      counted = sym (length-map (drop filled token) is_one) ∙ counted;
      total = total;
      zeros = ap (list_all (λ byte. byte == 48)) front ∙ replicate_all 48 filled;
      bits = ap (list_all is_bit) back ∙ bits_all look;
    }

pub bits_none : (used filled : ℕ) (token : List ℕ) → (IsBitsWord used filled token → ⊥) → bits_of used filled token ≡ None
bits_none used filled token not = none_where _ (map is_one (drop filled token)) (λ is. not (bits_true used filled token is))

-- a word of values is known by four tests
pub levels_some : (used filled : ℕ) (token letters fill : List ℕ) → used ≤ length token → letters ≡ take used token → fill ≡ drop used token
    → length fill ≡ filled → list_all (λ byte. byte == 88) fill ≡ true → list_all is_level letters ≡ true
    → levels_of used filled token ≡ Some (map level_at letters)
levels_some used filled token letters fill within letters_is fill_is counted xs levels =
    some_where _ (map level_at (take used token))
    (λ j. counted_is j && spelled_is j)
    ∙ ap (λ (given : List ℕ). Some (map level_at given)) (sym letters_is)
  where
    counted_is : (length (map level_at (take used token)) == used) ≡ true
    counted_is = eq-eqb (length (map level_at (take used token))) used
        (length-map (take used token) level_at ∙ length_taken used token within)

    same : map level_of (map level_at (take used token)) ++ replicate filled 88 ≡ token
    same =
        (λ j. map level_of (map level_at (take used token)) ++ replicate (sym (ap length (sym fill_is) ∙ counted) j) 88)
        ∙ (λ j. levels_are (take used token) (ap (list_all is_level) (sym letters_is) ∙ levels) j
        ++ letters_are 88 (drop used token) (ap (list_all (λ byte. byte == 88)) (sym fill_is) ∙ xs) j)
        ∙ parts used token

    spelled_is : bytes_eq (map level_of (map level_at (take used token)) ++ replicate filled 88) token ≡ true
    spelled_is = (bytes_eq-Decides (map level_of (map level_at (take used token)) ++ replicate filled 88) token).1 same

pub record IsLevelsWord (used filled : ℕ) (token : List ℕ) : Type 0 where
  pub within : used ≤ length token
  pub counted : length (drop used token) ≡ filled
  pub xs : list_all (λ byte. byte == 88) (drop used token) ≡ true
  pub levels : list_all is_level (take used token) ≡ true

levels_true : (used filled : ℕ) (token : List ℕ)
    → ((length (map level_at (take used token)) == used) && bytes_eq (map level_of (map level_at (take used token)) ++ replicate filled 88) token) ≡ true
    → IsLevelsWord used filled token
levels_true used filled token is =
    let look : List Trit = map level_at (take used token) in
    let both = both_true (length look == used) (bytes_eq (map level_of look ++ replicate filled 88) token) is in
    let same : map level_of look ++ replicate filled 88 ≡ token = (bytes_eq-Decides (map level_of look ++ replicate filled 88) token).0 both.1 in
    let counted : length (map level_of look) ≡ used = length-map look level_of ∙ eqb-true (length look) used both.0 in
    let total : length token ≡ used + filled =
    ap length (sym same) ∙ length-append (map level_of look) (replicate filled 88)
    ∙ (λ j. counted j + replicate_long 88 filled j) in
    let front : take used token ≡ map level_of look =
    (λ j. take (sym counted j) (sym same j)) ∙ take-append_seam (map level_of look) (replicate filled 88) in
    let back : drop used token ≡ replicate filled 88 =
    (λ j. drop (sym counted j) (sym same j)) ∙ drop-append_seam (map level_of look) (replicate filled 88) in
    record {
      within = omega (arith, total);
      counted = ap length back ∙ replicate_long 88 filled;
      xs = ap (list_all (λ byte. byte == 88)) back ∙ replicate_all 88 filled;
      levels = ap (list_all is_level) front ∙ levels_all look;
    }

pub levels_none : (used filled : ℕ) (token : List ℕ) → (IsLevelsWord used filled token → ⊥) → levels_of used filled token ≡ None
levels_none used filled token not = none_where _ (map level_at (take used token)) (λ is. not (levels_true used filled token is))

-- a test that fails, or succeeds
pub not_so : (result test : Bool) → result ≡ false → result ≡ test → test ≡ true → ⊥
not_so result test fails is known = let both : false ≡ true = sym fails ∙ is ∙ known in absurd cc

pub is_so : (result test : Bool) → result ≡ true → result ≡ test → test ≡ true
is_so result test holds is = sym is ∙ holds
