-- Forms that are put together of exact ones are exact.
use Rattle.std.proofs.Common.{◌≡◌, ℕ, Bool, true, false, ◌&&◌, List, ◌++◌, Option, Some, None, refl, sym, ap}
use Rattle.std.proofs.Common.{◌∙◌}
use Rattle.std.specs.Prelude.{⊤, if◌then◌else◌}
use Rattle.std.specs.Str.{bytes_eq}
use Rattle.std.proofs.lemmas.Slice.Eq.{bytes_eq-Decides}
use Rattle.ca_stil_form.specs.Form.{Token, read_fixed, read_then}
use Rattle.ca_stil_form.specs.code.Form.{Begins, BeginsOther}
use Rattle.ca_stil_form.specs.Grammar.{Piece, Form, spelled_value, word, and_then, following}
use Rattle.ca_stil_form.specs.code.Grammar.{IsExactForm}
use Rattle.ca_stil_form.specs.Grammar.{before, items_until, for_each, maybe}
use Rattle.ca_stil_form.proofs.FormLemmas.{left_true, right_true, one_exact, then_exact, mapped_exact}
use Rattle.ca_stil_form.proofs.FormLemmas.{fixed_exact, each_exact}
use Rattle.ca_stil_form.proofs.ItemsLemmas.{items_exact}
use Rattle.ca_stil_form.proofs.MaybeLemmas.{maybe_exact}

-- a word is exact where a first look at what is spelled gives the value
pub word_exact : {Value : Type 0} (allowed : Value → Bool) (spelled : Value → Token) (look : Token → Value) (some : Value)
    → allowed some ≡ true → ((value : Value) → allowed value ≡ true → look (spelled value) ≡ value) → IsExactForm (word allowed spelled look)
word_exact {Value} allowed spelled look some some_allowed looks = record {
  exact = one_exact (spelled_value allowed spelled look) spelled allowed some some_allowed back (λ token value is. found token value (allowed (look token) && bytes_eq (spelled (look token)) token) refl is);
}
  where
    back : (value : Value) → allowed value ≡ true → spelled_value allowed spelled look (spelled value) ≡ Some value
    back value is =
        ap (λ (seen : Value). if allowed seen && bytes_eq (spelled seen) (spelled value) then Some seen else None) (looks value is)
        ∙ (λ j. if is j && (bytes_eq-Decides (spelled value) (spelled value)).1 refl j then Some value else None)

    found : (token : Token) (value : Value) (test : Bool) → (allowed (look token) && bytes_eq (spelled (look token)) token) ≡ test
        → (if test then Some (look token) else None) ≡ Some value → (allowed value ≡ true) × (token ≡ spelled value)
    found token value true test_is is =
        let same : look token ≡ value = cc in (
          ap allowed (sym same) ∙ left_true (allowed (look token)) (bytes_eq (spelled (look token)) token) test_is,
          sym ((bytes_eq-Decides (spelled (look token)) token).0 (right_true (allowed (look token)) (bytes_eq (spelled (look token)) token) test_is)) ∙ ap spelled same,
        )
    found token value false test_is is = absurd cc

pub and_then_exact : {First Second : Type 0} (first : Form First) (second : First → Form Second)
    → IsExactForm first → ((one : First) → first.allowed one ≡ true → IsExactForm (second one)) → IsExactForm (and_then first second)
and_then_exact first second one two = record {
  exact = then_exact first.allowed first.written first.read (λ one. (second one).allowed) (λ one. (second one).written) (λ one. (second one).read)
      one.exact (λ value is. (two value is).exact);
}

pub after_exact : {Value : Type 0} (piece : Piece) (form : Form Value) → IsExactForm form → IsExactForm (following piece form)
after_exact {Value} piece form exact = record {
  exact =
      mapped_exact (λ (both : ⊤ × Value). true && form.allowed both.1) (λ (both : ⊤ × Value). piece.tokens ++ form.written both.1)
      (read_then (read_fixed piece.tokens) (λ (done : ⊤). form.read)) (λ both. both.1) form.allowed (λ value. piece.tokens ++ form.written value)
      (λ value is. (is, refl)) (λ seen is. ((tt, seen), refl, is))
      (then_exact (λ (done : ⊤). true) (λ (done : ⊤). piece.tokens) (read_fixed piece.tokens) (λ (done : ⊤). form.allowed) (λ (done : ⊤). form.written) (λ (done : ⊤). form.read)
      (fixed_exact piece.tokens) (λ done is. exact.exact));
}

pub before_exact : {Value : Type 0} (form : Form Value) (piece : Piece) → IsExactForm form → IsExactForm (before form piece)
before_exact {Value} form piece exact = record {
  exact =
      mapped_exact (λ (both : Value × ⊤). form.allowed both.0 && true) (λ (both : Value × ⊤). form.written both.0 ++ piece.tokens)
      (read_then form.read (λ (value : Value). read_fixed piece.tokens)) (λ both. both.0) form.allowed (λ value. form.written value ++ piece.tokens)
      (λ value is. (left_true (form.allowed value.0) true is, refl)) (λ seen is. ((seen, tt), refl, λ j. is j && true))
      (then_exact form.allowed form.written form.read (λ (value : Value) (done : ⊤). true) (λ (value : Value) (done : ⊤). piece.tokens) (λ (value : Value). read_fixed piece.tokens)
      exact.exact (λ value is. fixed_exact piece.tokens));
}

pub items_until_exact : {Item : Type 0} (close : Token) (closing : List ℕ) (item : ℕ → Form Item) → ((number : ℕ) → IsExactForm (item number))
    → ((number : ℕ) (value : Item) → (item number).allowed value ≡ true → BeginsOther close ((item number).written value))
    → (number : ℕ) → IsExactForm (items_until close closing item number)
items_until_exact close closing item exact opens number = record {
  exact = items_exact close (λ number. (item number).allowed) (λ number. (item number).written) (λ number. (item number).read) (λ number. (exact number).exact) opens number;
}

pub for_each_exact : {Part Item : Type 0} (item : Part → Form Item) → ((part : Part) → IsExactForm (item part)) → (parts : List Part) → IsExactForm (for_each item parts)
for_each_exact item exact parts = record {
  exact = each_exact (λ part. (item part).allowed) (λ part. (item part).written) (λ part. (item part).read) (λ part. (exact part).exact) parts;
}

pub form_maybe_exact : {First Second : Type 0} (possible : Bool) (key : Token) (first : Form First) (second : Option First → Form Second)
    → (possible ≡ true → IsExactForm first) → ((one : First) → first.allowed one ≡ true → Begins key (first.written one))
    → IsExactForm (second None) → ((one : First) → possible ≡ true → first.allowed one ≡ true → IsExactForm (second (Some one)))
    → ((two : Second) → (second None).allowed two ≡ true → BeginsOther key ((second None).written two))
    → IsExactForm (maybe possible key first second)
form_maybe_exact possible key first second exact opens absent present apart = record {
  exact = maybe_exact possible key first.allowed first.written first.read (λ one. (second one).allowed) (λ one. (second one).written) (λ one. (second one).read)
      (λ can. (exact can).exact) opens absent.exact (λ one can is. (present one can is).exact) apart;
}
