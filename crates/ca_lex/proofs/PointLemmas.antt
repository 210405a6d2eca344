-- Digits with an optional point, found in a text and put in front of one.
use Rattle.std.proofs.Common.{◌≡◌, ℕ, Bool, true, false, cond, eqb, inl, inr, List, [], ◌∷◌, ◌++◌, length}
use Rattle.std.proofs.Common.{take, drop, arith, refl, sym, ap, ◌∙◌, subst}
use Rattle.std.specs.Prelude.{codes}
use Rattle.std.proofs.lemmas.List.{take-append-drop, append-nil}
use Rattle.std.proofs.lemmas.List.Folds.{length-prefix_len}
use Rattle.std.proofs.lemmas.Bool.{eqb-true}
use Rattle.ca_lex.specs.Length.{is_digit, digits_len, Mantissa, fraction_at, mantissa_of}
use Rattle.ca_lex.specs.LengthGrammar.{AreDigits, IsPoint}
use Rattle.ca_lex.proofs.RunLemmas.{BeginsNoDigit, front_digits, digits_len-append, digits_taken}
use Rattle.ca_lex.proofs.RunLemmas.{digits_dropped}

abbrev pub here : List ℕ → ℕ → List ℕ → Mantissa
here digits places rest = record { digits = digits; places = places; rest = rest }

pub record HasFraction (whole text : List ℕ) : Type 0 where
  pub point : List ℕ
  pub fraction : List ℕ
  pub rest : List ℕ
  pub joined : text ≡ point ++ fraction ++ rest
  pub point_form : IsPoint point fraction
  pub fraction_form : AreDigits fraction
  pub is : fraction_at whole text ≡ record { digits = whole ++ fraction; places = length fraction; rest = rest }

pub no_digit : AreDigits []
no_digit k d within = absurd (omega arith)

pub no_fraction : (whole text : List ℕ) → fraction_at whole text ≡ record { digits = whole; places = 0; rest = text } → HasFraction whole text
no_fraction whole text is = record {
  point = [];
  fraction = [];
  rest = text;
  joined = refl;
  point_form = inr (refl, refl);
  fraction_form = no_digit;
  is = is ∙ ap (λ (digits : List ℕ). record { digits = digits; places = 0; rest = text }) (sym (append-nil whole));
}

pub some_fraction : (whole : List ℕ) (byte : ℕ) (more : List ℕ) → byte ≡ 46
    → fraction_at whole (byte ∷ more) ≡ record { digits = whole ++ take (digits_len more) more; places = digits_len more; rest = drop (digits_len more) more }
    → HasFraction whole (byte ∷ more)
some_fraction whole byte more point is = record {
  point = codes ".";
  fraction = take (digits_len more) more;
  rest = drop (digits_len more) more;
  joined = ap (λ (first : ℕ). first ∷ more) point ∙ ap (λ (following : List ℕ). 46 ∷ following) (sym (take-append-drop (digits_len more) more));
  point_form = inl refl;
  fraction_form = front_digits more;
  is = is ∙ ap (λ (len : ℕ). record { digits = whole ++ take (digits_len more) more; places = len; rest = drop (digits_len more) more }) (sym (length-prefix_len is_digit more));
}

pub fraction_found : (whole text : List ℕ) → HasFraction whole text
unfolding fraction_at
fraction_found whole [] = no_fraction whole [] refl
fraction_found whole (byte ∷ more) = by_point (eqb byte 46) refl
  where
    by_point : (is : Bool) → eqb byte 46 ≡ is → HasFraction whole (byte ∷ more)
    by_point true is = some_fraction whole byte more (eqb-true byte 46 is)
        (ap (λ (point : Bool). cond point (here (whole ++ take (digits_len more) more) (digits_len more) (drop (digits_len more) more)) (here whole 0 (byte ∷ more))) is)
    by_point false is = no_fraction whole (byte ∷ more)
        (ap (λ (point : Bool). cond point (here (whole ++ take (digits_len more) more) (digits_len more) (drop (digits_len more) more)) (here whole 0 (byte ∷ more))) is)

-- the text after the digits and the point begins with no digit and no point
abbrev pub BeginsAfter : List ℕ → Type 0
BeginsAfter [] = Unit {0}
BeginsAfter (byte ∷ more) = (is_digit byte ≡ false) × (eqb byte 46 ≡ false)

pub after_no_digit : (rest : List ℕ) → BeginsAfter rest → BeginsNoDigit rest
after_no_digit [] begins = tt
after_no_digit (byte ∷ more) begins = begins.0

pub mantissa_at : (whole following : List ℕ) → AreDigits whole → BeginsNoDigit following → mantissa_of (whole ++ following) ≡ fraction_at whole following
mantissa_at whole following whole_form begins =
    ap (λ (front : List ℕ). fraction_at front (drop (digits_len (whole ++ following)) (whole ++ following))) (digits_taken whole following whole_form begins)
    ∙ ap (fraction_at whole) (digits_dropped whole following whole_form begins)

pub fraction_pointed : (whole more : List ℕ) → fraction_at whole (46 ∷ more) ≡ here (whole ++ take (digits_len more) more) (digits_len more) (drop (digits_len more) more)
unfolding fraction_at
fraction_pointed whole more = refl

pub fraction_unpointed : (whole rest : List ℕ) → BeginsAfter rest → fraction_at whole rest ≡ here whole 0 rest
unfolding fraction_at
fraction_unpointed whole [] begins = refl
fraction_unpointed whole (byte ∷ more) begins =
    ap (λ (is : Bool). cond is (here (whole ++ take (digits_len more) more) (digits_len more) (drop (digits_len more) more)) (here whole 0 (byte ∷ more))) begins.1

pub pointed_only : (whole fraction rest following : List ℕ) → following ≡ 46 ∷ (fraction ++ rest) → AreDigits whole → AreDigits fraction → BeginsNoDigit rest
    → mantissa_of (whole ++ following) ≡ here (whole ++ fraction) (length fraction) rest
pointed_only whole fraction rest following is whole_form fraction_form begins =
    mantissa_at whole following whole_form (subst BeginsNoDigit (sym is) refl)
    ∙ ap (fraction_at whole) is
    ∙ fraction_pointed whole (fraction ++ rest)
    ∙ ap (λ (front : List ℕ). here (whole ++ front) (digits_len (fraction ++ rest)) (drop (digits_len (fraction ++ rest)) (fraction ++ rest)))
    (digits_taken fraction rest fraction_form begins)
    ∙ ap (λ (len : ℕ). here (whole ++ fraction) len (drop (digits_len (fraction ++ rest)) (fraction ++ rest)))
    (digits_len-append fraction rest fraction_form begins)
    ∙ ap (here (whole ++ fraction) (length fraction)) (digits_dropped fraction rest fraction_form begins)

pub unpointed_only : (whole fraction rest following : List ℕ) → following ≡ rest → fraction ≡ [] → AreDigits whole → BeginsAfter rest
    → mantissa_of (whole ++ following) ≡ here (whole ++ fraction) (length fraction) rest
unpointed_only whole fraction rest following is none whole_form begins =
    ap (λ (text : List ℕ). mantissa_of (whole ++ text)) is
    ∙ mantissa_at whole rest whole_form (after_no_digit rest begins)
    ∙ fraction_unpointed whole rest begins
    ∙ ap (λ (digits : List ℕ). here digits 0 rest) (sym (append-nil whole))
    ∙ ap (λ (digits : List ℕ). here (whole ++ digits) (length digits) rest) (sym none)

pub mantissa_only : (whole point fraction rest : List ℕ) → AreDigits whole → IsPoint point fraction → AreDigits fraction → BeginsAfter rest
    → mantissa_of (whole ++ (point ++ (fraction ++ rest))) ≡ here (whole ++ fraction) (length fraction) rest
mantissa_only whole point fraction rest whole_form (inl point_is) fraction_form begins =
    pointed_only whole fraction rest (point ++ (fraction ++ rest)) (ap (λ (first : List ℕ). first ++ (fraction ++ rest)) point_is)
    whole_form fraction_form (after_no_digit rest begins)
mantissa_only whole point fraction rest whole_form (inr none) fraction_form begins =
    unpointed_only whole fraction rest (point ++ (fraction ++ rest))
    (ap (λ (first : List ℕ). first ++ (fraction ++ rest)) none.0 ∙ ap (λ (digits : List ℕ). digits ++ rest) none.1) none.1 whole_form begins
