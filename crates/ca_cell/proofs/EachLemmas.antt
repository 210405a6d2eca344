-- What places give, one after another: made from the front, and searched.
use Rattle.std.proofs.Common.{◌≡◌, ℕ, zero, suc, ◌+◌, ◌-◌, ◌<◌, ◌≤◌, List, Bool, true, false, [], ◌∷◌, ◌++◌}
use Rattle.std.proofs.Common.{sym, ◌∙◌, ap, arith, append_assoc, append-nil, add-zero, add-one, zero-add}
use Rattle.std.proofs.Common.{true≢false}
use Rattle.std.specs.Prelude.{Option, Some, None, is_some, find}
use Rattle.std.specs.Option.{option_or}
use Rattle.std.proofs.lemmas.List.Folds.{find-append}
use Rattle.ca_cell.specs.declared.defect.Defect.{Defect}
use Rattle.ca_cell.specs.declared.defect.Defect.TheVariants.{OpenDrain, OpenSource, OpenGate}
use Rattle.ca_cell.specs.List.{each_from, opens_of}

-- one more place gives its defects after the others
each_from-suc : (give : ℕ → List Defect) (place count : ℕ) → each_from give place (suc count) ≡ each_from give place count ++ give (place + count)
each_from-suc give place zero = append-nil (give place) ∙ ap give (sym (add-zero place))
each_from-suc give place (suc count) =
    let same : place + 1 + count ≡ place + suc count = omega arith in
    ap (λ rest. give place ++ rest) (each_from-suc give (place + 1) count)
    ∙ sym (append_assoc (give place) (each_from give (place + 1) count) (give (place + 1 + count)))
    ∙ ap (λ at. (give place ++ each_from give (place + 1) count) ++ give at) same

-- a list that has what the places before gave has, with what the place gives, also that
pub one_more_place : (give : ℕ → List Defect) (count : ℕ) (start list new : List Defect) → list ≡ start ++ each_from give 0 count → new ≡ list ++ give count
    → new ≡ start ++ each_from give 0 (count + 1)
one_more_place give count start list new before more =
    more ∙ ap (λ l. l ++ give count) before ∙ append_assoc start (each_from give 0 count) (give count)
    ∙ ap (λ l. start ++ l) (ap (λ at. each_from give 0 count ++ give at) (sym (zero-add count)) ∙ sym (each_from-suc give 0 count) ∙ ap (each_from give 0) (sym (add-one count)))

-- the opens of a device, one after the other
pub opens_pushed : (place : ℕ) (list one two three : List Defect) → one ≡ list ++ OpenDrain (record { 0 = place }) ∷ []
    → two ≡ one ++ OpenSource (record { 0 = place }) ∷ [] → three ≡ two ++ OpenGate (record { 0 = place }) ∷ [] → three ≡ list ++ opens_of true place
opens_pushed place list one two three first second third =
    let drain : List Defect = OpenDrain (record { 0 = place }) ∷ [] in
    let source : List Defect = OpenSource (record { 0 = place }) ∷ [] in
    let gate : List Defect = OpenGate (record { 0 = place }) ∷ [] in
    third ∙ ap (λ l. l ++ gate) (second ∙ ap (λ l. l ++ source) first) ∙ append_assoc (list ++ drain) source gate ∙ append_assoc list drain (source ++ gate)

pub two_opens_pushed : (place : ℕ) (list one two : List Defect) → one ≡ list ++ OpenDrain (record { 0 = place }) ∷ []
    → two ≡ one ++ OpenSource (record { 0 = place }) ∷ [] → two ≡ list ++ opens_of false place
two_opens_pushed place list one two first second =
    let drain : List Defect = OpenDrain (record { 0 = place }) ∷ [] in
    let source : List Defect = OpenSource (record { 0 = place }) ∷ [] in
    second ∙ ap (λ l. l ++ source) first ∙ append_assoc list drain source

-- the places from one on are that one and those after it
each_from-front : (give : ℕ → List Defect) (place end : ℕ) → place < end → each_from give place (end - place) ≡ give place ++ each_from give (place + 1) (end - (place + 1))
each_from-front give place end within = let same : end - place ≡ suc (end - (place + 1)) = omega arith in ap (each_from give place) same

-- a place that has none is passed over
pub find_after : (test : Defect → Bool) (give : ℕ → List Defect) (place end : ℕ) → place < end → find test (give place) ≡ None
    → find test (each_from give place (end - place)) ≡ find test (each_from give (place + 1) (end - (place + 1)))
find_after test give place end within none =
    ap (find test) (each_from-front give place end within) ∙ find-append test (give place) (each_from give (place + 1) (end - (place + 1)))
    ∙ ap (λ o. option_or o (find test (each_from give (place + 1) (end - (place + 1))))) none

-- what is found at a place is found
pub find_here : (test : Defect → Bool) (give : ℕ → List Defect) (place end : ℕ) → place < end → (found : Option Defect) → found ≡ find test (give place)
    → is_some found ≡ true → found ≡ find test (each_from give place (end - place))
find_here test give place end within None is some = absurd (true≢false (sym some))
find_here test give place end within (Some defect) is some =
    sym (ap (find test) (each_from-front give place end within) ∙ find-append test (give place) (each_from give (place + 1) (end - (place + 1)))
    ∙ ap (λ o. option_or o (find test (each_from give (place + 1) (end - (place + 1))))) (sym is))

-- after all places nothing is found
pub find_nowhere : (test : Defect → Bool) (give : ℕ → List Defect) (place end : ℕ) → end ≤ place → find test (each_from give place (end - place)) ≡ None
find_nowhere test give place end past = let none : end - place ≡ 0 = omega arith in ap (λ n. find test (each_from give place n)) none

-- before all places the search is at its start
pub find_start : (test : Defect → Bool) (give : ℕ → List Defect) (end : ℕ) → find test (each_from give 0 end) ≡ find test (each_from give 0 (end - 0))
find_start test give end = let same : end ≡ end - 0 = omega arith in ap (λ n. find test (each_from give 0 n)) same

-- what is found at a place is what is found in all, where no place before it has any
pub found_at_place : (test : Defect → Bool) (give : ℕ → List Defect) (place end all : ℕ) → place < end → end ≡ all
    → find test (each_from give 0 end) ≡ find test (each_from give place (end - place)) → (found : Option Defect) → found ≡ find test (give place)
    → is_some found ≡ true → found ≡ find test (each_from give 0 all)
found_at_place test give place end all within same before found is some =
    find_here test give place end within found is some ∙ sym before ∙ ap (λ n. find test (each_from give 0 n)) same

-- a place that has none is passed over
pub place_passed : (test : Defect → Bool) (give : ℕ → List Defect) (place end : ℕ) → place < end
    → find test (each_from give 0 end) ≡ find test (each_from give place (end - place)) → (found : Option Defect) → found ≡ find test (give place)
    → is_some found ≡ false → find test (each_from give 0 end) ≡ find test (each_from give (place + 1) (end - (place + 1)))
place_passed test give place end within before None is none = before ∙ find_after test give place end within (sym is)
place_passed test give place end within before (Some defect) is none = absurd (true≢false none)
