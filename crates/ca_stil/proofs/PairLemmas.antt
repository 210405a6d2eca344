-- The statements of the pairs, one pair after another.
use Rattle.std.proofs.Common.{◌≡◌, ℕ, ◌+◌, ◌<◌, ◌≤◌, suc, Bool, List, [], ◌++◌, ◌∙◌, length, map, drop}
use Rattle.std.proofs.Common.{get_or, drop-cons, ap, subst, arith, sym, append_assoc}
use Rattle.std.specs.List.{All}
use Rattle.std.proofs.lemmas.List.{drop_all, get_or-map, length-map}
use Rattle.ca_net.specs.declared.trit.Trit.{Trit}
use Rattle.ca_stil.specs.declared.chip.StilChip.{StilChip}
use Rattle.ca_stil.specs.Pair.{pair_text}
use Rattle.ca_stil.specs.Text.{pairs_text}

-- what is seen of the entry at a place is the entry of what is seen there
pub seen_at : {X Y : Type 0} (view : X → Y) (xs : List X) (k : ℕ) (x : X) → k < length xs → x ≡ get_or xs k x
    → view x ≡ get_or (map view xs) k (view x)
seen_at view xs k x below is = ap view is ∙ sym (get_or-map view xs k x (view x) below)

pub seen_has : {X Y : Type 0} (view : X → Y) (P : Y → Type 0) (xs : List X) (k : ℕ) (x : X) → k < length xs
    → x ≡ get_or xs k x → All P (map view xs) → P (view x)
seen_has view P xs k x below is all =
    let long = length-map xs view in
    subst P (sym (seen_at view xs k x below is)) (all k (view x) (omega (arith, long, below)))

pub pairs_step : (chip : StilChip) (most number : ℕ) (pairs : List (List Bool)) (expected : List (List Trit))
    (pair : List Bool) (values : List Trit) → number < length pairs → length pairs ≡ length expected
    → pair ≡ get_or pairs number pair → values ≡ get_or expected number values
    → pairs_text chip most number (drop number pairs) (drop number expected)
    ≡ pair_text chip most number pair values
    ++ pairs_text chip most (number + 1) (drop (number + 1) pairs) (drop (number + 1) expected)
unfolding pairs_text
pairs_step chip most number pairs expected pair values below same first_is second_is =
    let first = drop-cons pairs number pair below in
    let second = drop-cons expected number values (omega arith) in
    let next : suc number ≡ number + 1 = omega arith in
    let given = sym first_is in
    let due = sym second_is in
    (λ j. pairs_text chip most number (first j) (second j))
    ∙ (λ j. pair_text chip most number (given j) (due j)
    ++ pairs_text chip most (number + 1) (drop (next j) pairs) (drop (next j) expected))

-- the next pair is written
pub pair_stepped : (old text new cells less all item : List ℕ) → text ++ cells ≡ old ++ all → new ≡ text ++ item
    → cells ≡ item ++ less → new ++ less ≡ old ++ all
pair_stepped old text new cells less all item before pushed more =
    ap (λ (given : List ℕ). given ++ less) pushed
    ∙ (append_assoc text item less ∙ (ap (λ (given : List ℕ). text ++ given) (sym more) ∙ before))

-- no pair is left
pub pairs_end : (chip : StilChip) (most number : ℕ) (pairs : List (List Bool)) (expected : List (List Trit))
    → length pairs ≤ number → pairs_text chip most number (drop number pairs) (drop number expected) ≡ []
unfolding pairs_text
pairs_end chip most number pairs expected past =
    ap (λ (left : List (List Bool)). pairs_text chip most number left (drop number expected))
    (drop_all number pairs past)
