-- Lines that are added one by one.
use Rattle.std.proofs.Common.{ℕ, zero, suc, ◌+◌, ◌≡◌, ◌∙◌, refl, List, [], ◌∷◌, ◌++◌, Some, add-one}
use Rattle.std.proofs.lemmas.Option.{same_Some}
use Rattle.std.specs.Prelude.{slice_index_or}
use Rattle.std.specs.List.{slice_get}
use Rattle.ca_net.specs.declared.trit.Trit.{Trit}
use Rattle.ca_net.specs.State.{value_at}
use Rattle.ca_on_chip.specs.Lines.{line_of_output, output_line, line_of_end, end_line, lines_by}

-- the name at a place
index_is : (names : List (List ℕ)) (o : ℕ) (name : List ℕ) → slice_get names o ≡ Some name
    → slice_index_or names o [] ≡ name
index_is [] o name at = absurd cc
index_is (first ∷ names) zero name at = same_Some first name at
index_is (first ∷ names) (suc o) name at = index_is names o name at

-- no line
pub lines_none : (line : ℕ → List ℕ) → lines_by line 0 ≡ []
unfolding lines_by
lines_none line = refl

-- a line more is added at the end
lines_pushed : (line : ℕ → List ℕ) (o : ℕ) (old new next : List ℕ) → old ≡ lines_by line o → next ≡ line o → new ≡ old ++ next
    → new ≡ lines_by line (o + 1)
unfolding lines_by
lines_pushed line o old new next before is pushed = rw (add-one o) (pushed ∙ rw (before, is) refl)

-- the line of one output more of `simulate`
pub output_pushed : (names found : List (List ℕ)) (good faulty : List Trit) (o : ℕ) (name : List ℕ)
    (value other : Trit) (old new : List ℕ) → found ≡ names → old ≡ lines_by (output_line names good faulty) o
    → slice_get found o ≡ Some name → value ≡ value_at good o → other ≡ value_at faulty o
    → new ≡ old ++ line_of_output name value other → new ≡ lines_by (output_line names good faulty) (o + 1)
output_pushed names found good faulty o name value other old new are before at good_is faulty_is pushed =
    let named : slice_index_or names o [] ≡ name = index_is names o name (rw are at at) in
    lines_pushed (output_line names good faulty) o old new (line_of_output name value other) before
    (rw (good_is, faulty_is, named) refl) pushed

-- the line of one output more of `replay`
pub end_pushed : (names found : List (List ℕ)) (values : List Trit) (o : ℕ) (name : List ℕ) (value : Trit) (old new : List ℕ)
    → found ≡ names → old ≡ lines_by (end_line names values) o → slice_get found o ≡ Some name → value ≡ value_at values o
    → new ≡ old ++ line_of_end name value → new ≡ lines_by (end_line names values) (o + 1)
end_pushed names found values o name value old new are before at value_is pushed =
    let named : slice_index_or names o [] ≡ name = index_is names o name (rw are at at) in
    lines_pushed (end_line names values) o old new (line_of_end name value) before (rw (value_is, named) refl) pushed
