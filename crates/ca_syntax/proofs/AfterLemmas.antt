-- Each of a list is right given those before it: one after another, and at any place.
use Rattle.std.proofs.Common.{◌≡◌, List, [], ◌∷◌, ◌++◌, refl, sym, subst, append_assoc, append-nil}
use Rattle.std.specs.Prelude.{⊤}
use Rattle.ca_syntax.specs.Rules.{EachAfter}

-- each is right given those before it and these
abbrev pub OneByOne : {T : Type 0} → (List T → T → Type 0) → List T → List T → Type 0
OneByOne P seen [] = ⊤
OneByOne P seen (here ∷ more) = P seen here × OneByOne P (seen ++ here ∷ []) more

first_same : {T : Type 0} (one other : T) (first second : List T) → one ∷ first ≡ other ∷ second → (one ≡ other) × (first ≡ second)
first_same one other first second is = (cc, cc)

at_place : {T : Type 0} (P : List T → T → Type 0) (seen list before : List T) (here : T) (after : List T)
    → OneByOne P seen list → list ≡ before ++ here ∷ after → P (seen ++ before) here
at_place P seen [] [] here after right is = absurd cc
at_place P seen [] (first ∷ before) here after right is = absurd cc
at_place P seen (one ∷ list) [] here after right is =
    let same = first_same one here list after is in
    subst (λ (all : List _). P all here) (sym (append-nil seen)) (subst (P seen) same.0 right.0)
at_place P seen (one ∷ list) (first ∷ before) here after right is =
    let same = first_same one first list (before ++ here ∷ after) is in
    subst (λ (all : List _). P all here) (append_assoc seen (first ∷ []) before)
    (subst (λ (other : _). P ((seen ++ other ∷ []) ++ before) here) same.0
    (at_place P (seen ++ one ∷ []) list before here after right.1 same.1))

pub each_after : {T : Type 0} (P : List T → T → Type 0) (list : List T) → OneByOne P [] list → EachAfter P list
each_after P list right = λ before here after is. at_place P [] list before here after right is

pub one_by_one : {T : Type 0} (P : List T → T → Type 0) (seen list : List T) → EachAfter P (seen ++ list) → OneByOne P seen list
one_by_one P seen [] right = tt
one_by_one {T} P seen (here ∷ more) right = (
  right seen here more refl,
  one_by_one P (seen ++ here ∷ []) more (subst (EachAfter P) (sym (append_assoc seen (here ∷ []) more)) right),
)
