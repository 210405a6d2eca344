-- Fixed tokens, one by one.
use Rattle.std.proofs.Common.{◌≡◌, ◌≤◌, ◌<◌, ◌-◌, Bool, true, false, not, List, [], ◌∷◌, length, get_or, take}
use Rattle.std.proofs.Common.{drop, refl, sym, ap, ◌∙◌, arith}
use Rattle.std.proofs.lemmas.List.{take_rest}
use Rattle.std.specs.Prelude.{⊤}
use Rattle.std.specs.Str.{bytes_eq}
use Rattle.ca_stil_form.specs.Form.{Token, Outcome, Got, Stuck, read_fixed}

pub read_over : (due tokens : List Token) → due ≡ [] → read_fixed due tokens ≡ Got tt tokens
unfolding read_fixed
read_over due tokens is = ap (λ (given : List Token). read_fixed given tokens) is

pub read_early : (due : List Token) (want : Token) (more tokens : List Token) → due ≡ want ∷ more → tokens ≡ [] → read_fixed due tokens ≡ Stuck tokens
unfolding read_fixed
read_early due want more tokens due_is none = (λ j. read_fixed (due_is j) (none j)) ∙ ap (λ (given : List Token). Stuck given) (sym none)

pub read_other : (due : List Token) (want : Token) (more tokens : List Token) (token : Token) (following : List Token)
    → due ≡ want ∷ more → tokens ≡ token ∷ following → bytes_eq want token ≡ false → read_fixed due tokens ≡ Stuck tokens
unfolding read_fixed
read_other due want more tokens token following due_is is other =
    (λ j. read_fixed (due_is j) (is j))
    ∙ (λ j. elim (other j) as (λ _. Outcome ⊤) [ true ↦ read_fixed more following | false ↦ Stuck (token ∷ following) ])
    ∙ ap (λ (given : List Token). Stuck given) (sym is)

pub read_same : (due : List Token) (want : Token) (more tokens : List Token) (token : Token) (following : List Token)
    → due ≡ want ∷ more → tokens ≡ token ∷ following → bytes_eq want token ≡ true → read_fixed due tokens ≡ read_fixed more following
unfolding read_fixed
read_same due want more tokens token following due_is is same =
    (λ j. read_fixed (due_is j) (is j))
    ∙ (λ j. elim (same j) as (λ _. Outcome ⊤) [ true ↦ read_fixed more following | false ↦ Stuck (token ∷ following) ])

-- a test for unequal tokens
pub unequal : (result test : Bool) → result ≡ true → result ≡ not test → test ≡ false
unequal result true is known = absurd cc
unequal result false is known = refl

pub equal : (result test : Bool) → result ≡ false → result ≡ not test → test ≡ true
equal result true is known = refl
equal result false is known = absurd cc

-- a list is its first item and those after it
pub split_first : (wanted : List Token) (want : Token) → 1 ≤ length wanted → want ≡ get_or wanted 0 want
    → wanted ≡ want ∷ take (length wanted - 1) (drop 1 wanted)
split_first [] want some is = absurd (omega (arith, some))
split_first (one ∷ wanted) want some is = λ j. sym is j ∷ sym (take_rest (one ∷ wanted) 1) j

pub none_left : (wanted : List Token) → length wanted < 1 → wanted ≡ []
none_left [] below = refl
none_left (one ∷ wanted) below = absurd (omega (arith, below))
