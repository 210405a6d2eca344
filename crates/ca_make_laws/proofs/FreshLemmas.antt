-- The names of a generated chip are different.
use Rattle.std.proofs.Common.{◌≡◌, ℕ, zero, suc, ◌+◌, ◌<◌, ◌≤◌, ◌^◌, ◌==◌, Bool, true, false, ◌||◌, ◌&&◌}
use Rattle.std.proofs.Common.{List, [], ◌∷◌, ◌++◌}
use Rattle.std.proofs.Common.{map, refl, sym, ap, ◌∙◌, subst, arith, decimal, append_assoc}
use Rattle.std.specs.Str.{bytes_eq}
use Rattle.std.specs.List.{All, range_with_len}
use Rattle.std.proofs.lemmas.List.{append-nil}
use Rattle.std.proofs.lemmas.List.Elements.{All-nil, All-cons, All-push}
use Rattle.std.proofs.lemmas.List.Folds.{list_any-append, list_any_none}
use Rattle.std.proofs.lemmas.Fmt.{decimal_injective}
use Rattle.std.proofs.lemmas.Slice.Eq.{bytes_eq-Decides}
use native.Mathlib.Decide.{ℕ_discrete}
use Rattle.std.specs.Bool.{Decides}
use Rattle.ca_names.specs.Names.{has_name, repeats}
use Rattle.ca_verilog.proofs.DistinctLemmas.{same_name}
use Rattle.ca_syntax.proofs.AfterLemmas.{OneByOne}
use Rattle.ca_make.specs.NetlistText.{numbered}

-- two texts that aren't the same
apart : (one other : List ℕ) → (one ≡ other → ⊥) → bytes_eq one other ≡ false
apart one other differ = by (bytes_eq one other) (bytes_eq-Decides one other)
  where
    by : (b : Bool) → Decides b (one ≡ other) → b ≡ false
    by true is = absurd (differ (is.0 refl))
    by false is = refl

tail_same : (x y : ℕ) (xs ys : List ℕ) → x ∷ xs ≡ y ∷ ys → xs ≡ ys
tail_same x y xs ys is = cc

-- letters with different numbers
pub numbers_apart : (letter a b : ℕ) → a < 2 ^ 64 → b < 2 ^ 64 → (a ≡ b → ⊥)
    → bytes_eq (letter ∷ decimal a) (letter ∷ decimal b) ≡ false
numbers_apart letter a b few_a few_b differ =
    apart (letter ∷ decimal a) (letter ∷ decimal b)
    (λ is. differ (decimal_injective a b few_a few_b (tail_same letter letter (decimal a) (decimal b) is)))

-- the name is none of those before it
abbrev pub IsNew : List (List ℕ) → List ℕ → Type 0
IsNew seen name = has_name name seen ≡ false

-- none of these is a name of this letter with a number from this on
abbrev pub AreOthers : ℕ → ℕ → ℕ → List (List ℕ) → Type 0
AreOthers letter from most names = All (λ name. (k : ℕ) → from ≤ k → k < most
    → bytes_eq (letter ∷ decimal k) name ≡ false) names

-- names of a letter with numbers from one on are new after others
pub names_new : (letter from count most : ℕ) (seen : List (List ℕ)) → from + count ≤ most → most ≤ 2 ^ 32
    → AreOthers letter from most seen → OneByOne IsNew seen (map (numbered (letter ∷ [])) (range_with_len from count))
names_new letter from zero most seen le few others = tt
names_new letter from (suc count) most seen le few others = (
  list_any_none (bytes_eq (letter ∷ decimal from)) seen
      (λ j d lt. others j d lt from (omega arith) (omega (arith, le))),
  names_new letter (from + 1) count most (seen ++ (letter ∷ decimal from) ∷ []) (omega (arith, le)) few
      (All-push (λ name. (k : ℕ) → from + 1 ≤ k → k < most → bytes_eq (letter ∷ decimal k) name ≡ false) seen
      (letter ∷ decimal from)
      (λ j d lt k above below. others j d lt k (omega (arith, above)) below)
      (λ k above below. numbers_apart letter k from (omega (arith, below, few)) (omega (arith, le, few))
      (λ is. absurd (omega (arith, is, above))))),
)

-- names of another letter are others
pub other_letter : (letter other from most start count : ℕ) → (letter == other) ≡ false
    → AreOthers letter from most (map (numbered (other ∷ [])) (range_with_len start count))
other_letter letter other from most start zero differ = All-nil _
other_letter letter other from most start (suc count) differ =
    All-cons (λ name. (k : ℕ) → from ≤ k → k < most → bytes_eq (letter ∷ decimal k) name ≡ false) (other ∷ decimal start)
    (map (numbered (other ∷ [])) (range_with_len (start + 1) count))
    (λ k above below. ap (λ (b : Bool). b && bytes_eq (decimal k) (decimal start)) differ)
    (other_letter letter other from most (start + 1) count differ)

-- one after another, of two lists
pub both_lists : {T : Type 0} (P : List T → T → Type 0) (seen one other : List T) → OneByOne P seen one
    → OneByOne P (seen ++ one) other → OneByOne P seen (one ++ other)
both_lists P seen [] other first second = subst (λ (s : List _). OneByOne P s other) (append-nil seen) second
both_lists P seen (x ∷ one) other first second = (
  first.0,
  both_lists P (seen ++ x ∷ []) one other first.1
      (subst (λ (s : List _). OneByOne P s other) (sym (append_assoc seen (x ∷ []) one)) second),
)

-- so no word occurs twice
pub no_double : (seen words : List (List ℕ)) → OneByOne IsNew seen words → repeats seen words ≡ false
unfolding repeats
no_double seen [] new = refl
no_double seen (word ∷ words) new =
    ap (λ (b : Bool). b || repeats (seen ++ word ∷ []) words) new.0 ∙ no_double (seen ++ word ∷ []) words new.1

-- a name of a letter with a number below this is there
pub has_numbered : (letter from count k : ℕ) → from ≤ k → k < from + count
    → has_name (letter ∷ decimal k) (map (numbered (letter ∷ [])) (range_with_len from count)) ≡ true
has_numbered letter from zero k above below = absurd (omega (arith, above, below))
has_numbered letter from (suc count) k above below = elim (ℕ_discrete k from) [
  | yes is ↦ ap (λ (b : Bool). b || has_name (letter ∷ decimal k) (map (numbered (letter ∷ [])) (range_with_len (from + 1) count)))
      (ap (λ n. bytes_eq (letter ∷ decimal k) (letter ∷ decimal n)) (sym is) ∙ same_name (letter ∷ decimal k))
  | no differ ↦ ap (λ (b : Bool). bytes_eq (letter ∷ decimal k) (letter ∷ decimal from) || b)
      (has_numbered letter (from + 1) count k (omega arith) (omega (arith, below)))
      ∙ or_true (bytes_eq (letter ∷ decimal k) (letter ∷ decimal from))
]
  where
    or_true : (b : Bool) → (b || true) ≡ true
    or_true true = refl
    or_true false = refl

-- a name that one of two lists has
pub has_first : (name : List ℕ) (one other : List (List ℕ)) → has_name name one ≡ true → has_name name (one ++ other) ≡ true
has_first name one other has =
    list_any-append (bytes_eq name) one other ∙ ap (λ (b : Bool). b || has_name name other) has

pub has_second : (name : List ℕ) (one other : List (List ℕ)) → has_name name other ≡ true → has_name name (one ++ other) ≡ true
has_second name one other has =
    list_any-append (bytes_eq name) one other ∙ ap (λ (b : Bool). has_name name one || b) has ∙ or_true (has_name name one)
  where
    or_true : (b : Bool) → (b || true) ≡ true
    or_true true = refl
    or_true false = refl
