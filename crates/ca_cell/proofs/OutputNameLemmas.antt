-- The names of the output pins of a cell.
use Rattle.std.proofs.Common.{ℕ, ◌+◌, ◌<◌, ◌≡◌, refl, sym, ap, ◌∙◌, take, slice_index_or, add-one, append-nil}
use Rattle.std.proofs.Common.{Bool, true, false, cond, List, [], ◌∷◌, ◌++◌, length, arith, zero, suc}
use Rattle.std.proofs.lemmas.List.Recursion.{is_count_by}
use Rattle.ca_cell.specs.declared.raw.RawPin.{RawPin}
use Rattle.ca_cell.specs.Raw.{is_output, role_count, output_names}

-- there is one name for each output pin
pub output_count : (pins : List RawPin) → length (output_names pins) ≡ role_count is_output pins
output_count pins = is_count_by (λ (list : List RawPin). length (output_names list)) (λ (pin : RawPin). is_output pin.role) refl (λ pin more. at (is_output pin.role) pin.name (output_names more)) pins
  where
    at : (is : Bool) (name : List ℕ) (names : List (List ℕ)) → length (cond is (name ∷ names) names) ≡ cond is (1 + length names) (length names)
    at true name names = omega arith
    at false name names = refl

-- the names of one pin: its own where it is an output
abbrev own_name : RawPin → List (List ℕ)
own_name pin = cond (is_output pin.role) (pin.name ∷ []) []

after_first : (is : Bool) (name : List ℕ) (names more all : List (List ℕ)) → all ≡ names ++ more
    → cond is (name ∷ all) all ≡ cond is (name ∷ names) names ++ more
after_first true name names more all held = ap (λ rest. name ∷ rest) held
after_first false name names more all held = held

names_next : (pins : List RawPin) (place : ℕ) (pin : RawPin) → place < length pins → pin ≡ slice_index_or pins place pin
    → output_names (take (suc place) pins) ≡ output_names (take place pins) ++ own_name pin
names_next [] place pin below is = absurd (omega arith)
names_next (first ∷ pins) zero pin below is = ap own_name (sym is)
names_next (first ∷ pins) (suc place) pin below is =
    after_first (is_output first.role) first.name (output_names (take place pins)) (own_name pin) (output_names (take (suc place) pins))
    (names_next pins place pin (omega (arith, below)) is)

-- the name of an output pin comes last
pub names_with : (pins : List RawPin) (place : ℕ) (pin : RawPin) (name : List ℕ) (old new : List (List ℕ)) → old ≡ output_names (take place pins)
    → place < length pins → pin ≡ slice_index_or pins place pin → is_output pin.role ≡ true → name ≡ pin.name → new ≡ old ++ (name ∷ [])
    → new ≡ output_names (take (place + 1) pins)
names_with pins place pin name old new before below is output named pushed =
    rw (add-one place) (pushed ∙ ap (λ front. front ++ (name ∷ [])) before ∙ ap (λ own. output_names (take place pins) ++ (own ∷ [])) named
    ∙ sym (names_next pins place pin below is ∙ ap (λ own. output_names (take place pins) ++ cond own (pin.name ∷ []) []) output))

-- another pin adds none
pub names_without : (pins : List RawPin) (place : ℕ) (pin : RawPin) (old : List (List ℕ)) → old ≡ output_names (take place pins)
    → place < length pins → pin ≡ slice_index_or pins place pin → is_output pin.role ≡ false → old ≡ output_names (take (place + 1) pins)
names_without pins place pin old before below is other =
    rw (add-one place) (before ∙ sym (names_next pins place pin below is ∙ ap (λ own. output_names (take place pins) ++ cond own (pin.name ∷ []) []) other
    ∙ append-nil (output_names (take place pins))))
