-- One reading after another, and the forms as such.
use Rattle.std.proofs.Common.{◌≡◌, Bool, true, false, ◌&&◌, List, [], ◌∷◌, Option, Some, None, refl}
use Rattle.std.proofs.Common.{sym, ap, ◌∙◌}
use Rattle.std.specs.Prelude.{⊤, if◌then◌else◌}
use Rattle.std.specs.Str.{bytes_eq}
use Rattle.ca_stil_form.specs.Form.{Token, Outcome, Got, Stuck, mapped, with_first, read_after, read_fixed}
use Rattle.ca_stil_form.specs.Form.{as_some}
use Rattle.ca_stil_form.specs.Grammar.{Piece, Form, and_then, following, before, maybe}
use Rattle.ca_stil_read.specs.Onward.{onward, read_optional}

-- values seen in two ways, one after the other
pub mapped_twice : {One Two Three : Type 0} (first : One → Two) (second : Two → Three) (read : Outcome One)
    → mapped second (mapped first read) ≡ mapped (λ value. second (first value)) read
mapped_twice first second (Got value rest) = refl
mapped_twice first second (Stuck rest) = refl

-- three readings, one after another
pub onward_twice : {One Two Three : Type 0} (read : Outcome One) (next : One → List Token → Outcome Two) (last : Two → List Token → Outcome Three)
    → onward (onward read next) last ≡ onward read (λ value rest. onward (next value rest) last)
onward_twice (Got value rest) next last = refl
onward_twice (Stuck rest) next last = refl

pub onward_mapped : {One Two Three : Type 0} (view : One → Two) (read : Outcome One) (next : Two → List Token → Outcome Three)
    → onward (mapped view read) next ≡ onward read (λ value. next (view value))
onward_mapped view (Got value rest) next = refl
onward_mapped view (Stuck rest) next = refl

pub mapped_onward : {One Two Three : Type 0} (view : Two → Three) (read : Outcome One) (next : One → List Token → Outcome Two)
    → mapped view (onward read next) ≡ onward read (λ value rest. mapped view (next value rest))
mapped_onward view (Got value rest) next = refl
mapped_onward view (Stuck rest) next = refl

-- the forms that are put together
pub after_onward : {Value Seen : Type 0} (view : Value → Seen) (piece : Piece) (form : Form Value) (tokens : List Token)
    → mapped view ((following piece form).read tokens) ≡ onward (read_fixed piece.tokens tokens) (λ passed rest. mapped view (form.read rest))
after_onward {Value} {Seen} view piece form tokens = by (read_fixed piece.tokens tokens)
  where
    alone : (read : Outcome Value) → mapped view (mapped (λ (both : ⊤ × Value). both.1) (with_first tt read)) ≡ mapped view read
    alone (Got value rest) = refl
    alone (Stuck rest) = refl

    by : (given : Outcome ⊤) → mapped view (mapped (λ (both : ⊤ × Value). both.1) (read_after given (λ (done : ⊤). form.read)))
        ≡ onward given (λ passed rest. mapped view (form.read rest))
    by (Got passed rest) = alone (form.read rest)
    by (Stuck rest) = refl

pub and_then_onward : {First Second Seen : Type 0} (view : First × Second → Seen) (first : Form First) (second : First → Form Second) (tokens : List Token)
    → mapped view ((and_then first second).read tokens)
    ≡ onward (first.read tokens) (λ one rest. mapped (λ two. view (one, two)) ((second one).read rest))
and_then_onward {First} {Second} {Seen} view first second tokens = by (first.read tokens)
  where
    alone : (one : First) (read : Outcome Second) → mapped view (with_first one read) ≡ mapped (λ two. view (one, two)) read
    alone one (Got value rest) = refl
    alone one (Stuck rest) = refl

    by : (given : Outcome First) → mapped view (read_after given (λ (one : First). (second one).read))
        ≡ onward given (λ one rest. mapped (λ two. view (one, two)) ((second one).read rest))
    by (Got one rest) = alone one ((second one).read rest)
    by (Stuck rest) = refl

pub before_onward : {Value Seen : Type 0} (view : Value → Seen) (form : Form Value) (piece : Piece) (tokens : List Token)
    → mapped view ((before form piece).read tokens)
    ≡ onward (form.read tokens) (λ value rest. mapped (λ passed. view value) (read_fixed piece.tokens rest))
before_onward {Value} {Seen} view form piece tokens = by (form.read tokens)
  where
    alone : (value : Value) (read : Outcome ⊤)
        → mapped view (mapped (λ (both : Value × ⊤). both.0) (with_first value read)) ≡ mapped (λ passed. view value) read
    alone value (Got passed rest) = refl
    alone value (Stuck rest) = refl

    by : (given : Outcome Value) → mapped view (mapped (λ (both : Value × ⊤). both.0) (read_after given (λ (value : Value). read_fixed piece.tokens)))
        ≡ onward given (λ value rest. mapped (λ passed. view value) (read_fixed piece.tokens rest))
    by (Got value rest) = alone value (read_fixed piece.tokens rest)
    by (Stuck rest) = refl

-- a form that may be left out
pub maybe_onward : {First Second Seen : Type 0} (view : Option First × Second → Seen) (possible : Bool) (key : Token) (first : Form First)
    (second : Option First → Form Second) (tokens : List Token)
    → mapped view ((maybe possible key first second).read tokens)
    ≡ onward (read_optional possible key first.read tokens) (λ one rest. mapped (λ two. view (one, two)) ((second one).read rest))
maybe_onward {First} {Second} {Seen} view possible key first second tokens = by tokens
  where
    absent : (read : Outcome Second) → mapped view (with_first None read) ≡ mapped (λ two. view (None, two)) read
    absent (Got two rest) = refl
    absent (Stuck rest) = refl

    present_one : (one : First) (read : Outcome Second) → mapped view (mapped as_some (with_first one read)) ≡ mapped (λ two. view (Some one, two)) read
    present_one one (Got two rest) = refl
    present_one one (Stuck rest) = refl

    present : (given : Outcome First) → mapped view (mapped as_some (read_after given (λ one. (second (Some one)).read)))
        ≡ onward (mapped (λ value. Some value) given) (λ one rest. mapped (λ two. view (one, two)) ((second one).read rest))
    present (Got one rest) = present_one one ((second (Some one)).read rest)
    present (Stuck rest) = refl

    tested : (test : Bool) (given : List Token) → mapped view (elim test as (λ _. Outcome (Option First × Second)) [
      | true ↦ mapped as_some (read_after (first.read given) (λ one. (second (Some one)).read))
      | false ↦ with_first None ((second None).read given)
    ])
        ≡ onward (if test then mapped (λ value. Some value) (first.read given) else Got None given)
        (λ one rest. mapped (λ two. view (one, two)) ((second one).read rest))
    tested true given = present (first.read given)
    tested false given = absent ((second None).read given)

    never : (test : Bool) → (if test && false then mapped (λ value. Some value) (first.read []) else Got None []) ≡ Got None []
    never true = refl
    never false = refl

    by : (given : List Token) → mapped view ((maybe possible key first second).read given)
        ≡ onward (read_optional possible key first.read given) (λ one rest. mapped (λ two. view (one, two)) ((second one).read rest))
    by [] = absent ((second None).read [])
        ∙ ap (λ (read : Outcome (Option First)). onward read (λ one rest. mapped (λ two. view (one, two)) ((second one).read rest))) (sym (never possible))
    by (token ∷ rest) = tested (possible && bytes_eq key token) (token ∷ rest)

pub onward_got : {One Two : Type 0} (read : Outcome One) (next : One → List Token → Outcome Two) (value : One) (rest : List Token)
    → read ≡ Got value rest → onward read next ≡ next value rest
onward_got read next value rest is = ap (λ (given : Outcome _). onward given next) is
