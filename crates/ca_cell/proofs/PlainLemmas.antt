-- Texts made of plain names and marks, taken apart.
use Rattle.std.proofs.Common.{◌≡◌, ◌≢◌, ℕ, ◌+◌, ◌-◌, inl, inr, List, [], ◌∷◌, ◌++◌, length, refl, sym, ap}
use Rattle.std.proofs.Common.{subst, arith}
use Rattle.std.specs.List.{AllByRecursion}
use Rattle.std.specs.Char.{to_ascii_uppercase}
use Rattle.std.proofs.lemmas.Bool.Decides.{nat_tests}
use Rattle.std.proofs.lemmas.List.{length-append}
use Rattle.std.proofs.lemmas.List.Elements.{recursion_from_All}
use Rattle.ca_lex.specs.Words.{upper_case}
use Rattle.ca_cell.specs.PlainNames.{IsPlain}

-- no byte is an equals sign
abbrev pub HasNoSign : List ℕ → Type 0
HasNoSign text = AllByRecursion (λ byte. byte ≢ 61) text

-- a plain name, byte by byte
pub data IsPlainText : List ℕ → Type 0 where
  sign : IsPlainText (61 ∷ [])
  plain : (byte : ℕ) (more : List ℕ) → byte ≢ 61 → HasNoSign more → IsPlainText (byte ∷ more)

upper_no_sign : (byte : ℕ) → byte ≢ 61 → to_ascii_uppercase byte ≢ 61
upper_no_sign byte other = λ same. grind (arith, nat_tests)

upper_all : (text : List ℕ) → HasNoSign text → HasNoSign (upper_case text)
upper_all [] all = tt
upper_all (byte ∷ text) all = (upper_no_sign byte all.0, upper_all text all.1)

-- a plain name in upper case
pub upper_plain : (name : List ℕ) → IsPlain name → IsPlainText (upper_case name)
upper_plain name (inl is) = subst (λ (text : List ℕ). IsPlainText (upper_case text)) (sym is) sign
upper_plain name (inr (some, all)) = by name some (recursion_from_All (λ byte. byte ≢ 61) name all)
  where
    by : (text : List ℕ) → text ≢ [] → HasNoSign text → IsPlainText (upper_case text)
    by [] some all = absurd (some refl)
    by (byte ∷ text) some all = plain (to_ascii_uppercase byte) (upper_case text) (upper_no_sign byte all.0) (upper_all text all.1)

-- texts up to their first equals sign are one
up_to_sign : (one other rest more : List ℕ) → HasNoSign one → HasNoSign other → one ++ 61 ∷ rest ≡ other ++ 61 ∷ more
    → (one ≡ other) × (rest ≡ more)
up_to_sign [] [] rest more all both same = (refl, cc)
up_to_sign [] (byte ∷ other) rest more all both same = absurd (both.0 cc)
up_to_sign (byte ∷ one) [] rest more all both same = absurd (all.0 cc)
up_to_sign (byte ∷ one) (next ∷ other) rest more all both same =
    let first : byte ≡ next = cc in
    let following : one ++ 61 ∷ rest ≡ other ++ 61 ∷ more = cc in
    let later = up_to_sign one other rest more all.1 both.1 following in
    (λ j. first j ∷ later.0 j, later.1)

-- a text without an equals sign isn't one with it
no_sign : (one rest other : List ℕ) → HasNoSign other → one ++ 61 ∷ rest ≡ other → ⊥
no_sign [] rest [] all same = cc
no_sign [] rest (byte ∷ other) all same = all.0 cc
no_sign (byte ∷ one) rest [] all same = cc
no_sign (byte ∷ one) rest (next ∷ other) all same = no_sign one rest other all.1 cc

-- two plain names with an equals sign between
pub one_short : (low high other more : List ℕ) → IsPlainText low → IsPlainText other → low ++ 61 ∷ high ≡ other ++ 61 ∷ more
    → (low ≡ other) × (high ≡ more)
one_short low high other more sign sign same = (refl, cc)
one_short low high other more sign (plain byte rest is all) same = absurd (is cc)
one_short low high other more (plain byte rest is all) sign same = absurd (is cc)
one_short low high other more (plain byte rest is all) (plain next following is_too all_too) same =
    up_to_sign (byte ∷ rest) (next ∷ following) high more (is, all) (is_too, all_too) same

-- a mark: a letter in parentheses
abbrev pub marked : List ℕ → ℕ → List ℕ
marked name letter = name ++ 40 ∷ letter ∷ 41 ∷ []

all_append : (text more : List ℕ) → HasNoSign text → HasNoSign more → HasNoSign (text ++ more)
all_append [] more all following = following
all_append (byte ∷ text) more all following = (all.0, all_append text more all.1 following)

-- a plain name with a mark isn't two names with an equals sign between
pub open_or_short : (name low high : List ℕ) (letter : ℕ) → letter ≢ 61 → IsPlainText name → IsPlainText low → marked name letter ≡ low ++ 61 ∷ high
    → ⊥
open_or_short name low high letter other sign sign same =
    let bad : ◌≡◌ {A = ℕ} 40 61 = cc in omega (arith, bad)
open_or_short name low high letter other sign (plain byte rest is all) same = is cc
open_or_short name low high letter other (plain byte rest is all) of_low same =
    no_sign low high (marked (byte ∷ rest) letter)
    (all_append (byte ∷ rest) (40 ∷ letter ∷ 41 ∷ []) (is, all) (λ bad. omega (arith, bad), (other, (λ bad. omega (arith, bad), tt)))) (sym same)

-- two names with marks
pub one_open : (name other : List ℕ) (letter mark : ℕ) → marked name letter ≡ marked other mark → (name ≡ other) × (letter ≡ mark)
one_open [] [] letter mark same = (refl, cc)
one_open [] (byte ∷ other) letter mark same = absurd (omega (arith, simp length-append at (ap length same)))
one_open (byte ∷ name) [] letter mark same = absurd (omega (arith, simp length-append at (ap length same)))
one_open (byte ∷ name) (next ∷ other) letter mark same =
    let first : byte ≡ next = cc in
    let following : marked name letter ≡ marked other mark = cc in
    let later = one_open name other letter mark following in
    (λ j. first j ∷ later.0 j, later.1)
