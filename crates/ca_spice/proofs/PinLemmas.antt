-- Words of roles, one after another.
use Rattle.std.proofs.Common.{◌≡◌, ℕ, ◌+◌, ◌-◌, ◌<◌, ◌≤◌, List, Bool, true, false, [], ◌∷◌, length, take}
use Rattle.std.proofs.Common.{drop, get_or, arith, Option, Some, None, Result, Ok, Err, refl, sym, ap, ◌∙◌}
use Rattle.std.proofs.Common.{◌&&◌, not}
use Rattle.std.specs.Prelude.{nat_lt, slice_get}
use denote.Bor.{Bor}
use Rattle.std.proofs.lemmas.List.{take_rest}
use Rattle.ca_cell.specs.declared.raw.Role.{Role}
use Rattle.std.specs.List.{list_all}
use borrow.Author.Tests.{ltb-true}
use Rattle.ca_lex.specs.FirstFault.{steps_from}
use Rattle.ca_lex.specs.Reading.{IsFault, unless}
use Rattle.ca_lex.proofs.FirstFaultLemmas.{after_step, steps_from-cons}
use Rattle.ca_spice.specs.declared.fault.SpiceKind.{SpiceKind}
use Rattle.ca_spice.specs.declared.fault.SpiceKind.TheVariants.{BadCard, BadRole}
use Rattle.ca_spice.specs.declared.pin.Pin.{Pin}
use Rattle.ca_names.specs.Names.{place_of}
use Rattle.ca_spice.specs.Names.{is_name}
use Rattle.ca_spice.specs.code.Names.{texts}
use Rattle.ca_spice.specs.PinInfo.{colon_place, pin_part, is_pin_word, are_pin_words, role_of, with_role}
use Rattle.ca_spice.specs.PinInfo.{role_step, pin_info}

-- both sides of a test that is true are true
pub left_true : (left right : Bool) → (left && right) ≡ true → left ≡ true
left_true true right all = refl
left_true false right all = absurd cc

pub right_true : (left right : Bool) → (left && right) ≡ true → right ≡ true
right_true true right all = all
right_true false right all = absurd cc

-- the first of words that are all of the form is, and so are the others
pub first_is : (word : List ℕ) (words : List (List ℕ)) → list_all is_pin_word (word ∷ words) ≡ true → is_pin_word word ≡ true
first_is word words all = left_true (is_pin_word word) (list_all is_pin_word words) all

pub others_are : (word : List ℕ) (words : List (List ℕ)) → list_all is_pin_word (word ∷ words) ≡ true → list_all is_pin_word words ≡ true
others_are word words all = right_true (is_pin_word word) (list_all is_pin_word words) all

-- a word of the form has a `:`
pub colon_within : (word : List ℕ) → is_pin_word word ≡ true → colon_place word < length word
unfolding is_pin_word
colon_within word is =
    ltb-true (colon_place word) (length word)
    (right_true (nat_lt 0 (colon_place word)) (nat_lt (colon_place word) (length word))
    (left_true (nat_lt 0 (colon_place word) && nat_lt (colon_place word) (length word)) (is_name (pin_part word)) is))

-- words of roles are of the form
pub all_words : (words : List (List ℕ)) → are_pin_words words ≡ true → list_all is_pin_word words ≡ true
all_words [] are = absurd cc
all_words (word ∷ words) are = are

-- a word that is taken leaves the words after it
pub goes_on : (nets : List (List ℕ)) (word : List ℕ) (words : List (List ℕ)) (pins next : List Pin) (total : Result (List Pin) SpiceKind)
    → role_step nets word pins ≡ Ok next → steps_from (role_step nets) pins (word ∷ words) ≡ total → steps_from (role_step nets) next words ≡ total
goes_on nets word words pins next total taken so_far =
    sym (steps_from-cons (role_step nets) pins word words ∙ ap (λ given. after_step (role_step nets) given words) taken) ∙ so_far

-- a word that has a fault ends the words with it
pub stops : (nets : List (List ℕ)) (word : List ℕ) (words : List (List ℕ)) (pins : List Pin) (reported : Option SpiceKind) (total : Result (List Pin) SpiceKind)
    → IsFault reported (role_step nets word pins) → steps_from (role_step nets) pins (word ∷ words) ≡ total → IsFault reported total
stops nets word words pins None total fault so_far = tt
stops nets word words pins (Some kind) total fault so_far =
    sym so_far ∙ steps_from-cons (role_step nets) pins word words ∙ ap (λ given. after_step (role_step nets) given words) fault

-- words of the form are read one after another
pub pin_info-steps : (nets words : List (List ℕ)) (pins : List Pin) → are_pin_words words ≡ true → pin_info nets words pins ≡ steps_from (role_step nets) pins words
unfolding pin_info
pin_info-steps nets words pins are = ap (λ is. unless (not is) BadCard (steps_from (role_step nets) pins words)) are

-- after the last word the pins are those that were made
pub ends : (nets : List (List ℕ)) (pins : List Pin) (total : Result (List Pin) SpiceKind) → steps_from (role_step nets) pins [] ≡ total → total ≡ Ok pins
unfolding steps_from
ends nets pins total so_far = sym so_far

-- the words after the first
abbrev pub following : List (Bor (List ℕ)) → List (Bor (List ℕ))
following rest = take (length rest - 1) (drop 1 rest)

pub following-cons : (word : Bor (List ℕ)) (words : List (Bor (List ℕ))) → following (word ∷ words) ≡ words
following-cons word words = take_rest (word ∷ words) 1

-- the first word that is left is of the form
pub first_within : (rest : List (Bor (List ℕ))) (none : Bor (List ℕ)) → 1 ≤ length rest → list_all is_pin_word (texts rest) ≡ true
    → colon_place (get_or rest 0 none).now < length (get_or rest 0 none).now
first_within [] none some all = absurd (omega arith)
first_within (word ∷ words) none some all = colon_within word.now (first_is word.now (texts words) all)

-- so are those after it
pub after_are : (rest : List (Bor (List ℕ))) → 1 ≤ length rest → list_all is_pin_word (texts rest) ≡ true → list_all is_pin_word (texts (following rest)) ≡ true
after_are [] some all = absurd (omega arith)
after_are (word ∷ words) some all = ap (λ left. list_all is_pin_word (texts left)) (following-cons word words) ∙ others_are word.now (texts words) all

pub after_goes_on : (nets : List (List ℕ)) (rest : List (Bor (List ℕ))) (none : Bor (List ℕ)) (pins next : List Pin) (total : Result (List Pin) SpiceKind)
    → 1 ≤ length rest → role_step nets (get_or rest 0 none).now pins ≡ Ok next → steps_from (role_step nets) pins (texts rest) ≡ total
    → steps_from (role_step nets) next (texts (following rest)) ≡ total
after_goes_on nets [] none pins next total some taken so_far = absurd (omega arith)
after_goes_on nets (word ∷ words) none pins next total some taken so_far =
    ap (λ left. steps_from (role_step nets) next (texts left)) (following-cons word words)
    ∙ goes_on nets word.now (texts words) pins next total taken so_far

pub after_stops : (nets : List (List ℕ)) (rest : List (Bor (List ℕ))) (none : Bor (List ℕ)) (pins : List Pin) (reported : Option SpiceKind) (total : Result (List Pin) SpiceKind)
    → 1 ≤ length rest → IsFault reported (role_step nets (get_or rest 0 none).now pins) → steps_from (role_step nets) pins (texts rest) ≡ total → IsFault reported total
after_stops nets [] none pins reported total some fault so_far = absurd (omega arith)
after_stops nets (word ∷ words) none pins reported total some fault so_far = stops nets word.now (texts words) pins reported total fault so_far

-- after the last word the pins are those that were made
pub rest_ends : (nets : List (List ℕ)) (rest : List (Bor (List ℕ))) (pins : List Pin) (total : Result (List Pin) SpiceKind)
    → length rest < 1 → steps_from (role_step nets) pins (texts rest) ≡ total → total ≡ Ok pins
rest_ends nets [] pins total none so_far = ends nets pins total so_far
rest_ends nets (word ∷ words) pins total none so_far = absurd (omega arith)

-- what a word says, once its role and its pin are found
pub role_step-is : (nets : List (List ℕ)) (word : List ℕ) (pins : List Pin) (colon : ℕ) (taken : Role) (place : ℕ) → colon ≡ colon_place word
    → role_of (take (length word - (colon + 1)) (drop (colon + 1) word)) ≡ Some taken → place_of (take colon word) nets ≡ Some place
    → role_step nets word pins ≡ with_role taken pins place (slice_get pins place)
unfolding role_step
role_step-is nets word pins colon taken place colon_is role_is place_is =
    let role : role_of (drop (colon_place word + 1) word) ≡ Some taken =
    ap (λ n. role_of (drop (n + 1) word)) (sym colon_is) ∙ ap role_of (sym (take_rest word (colon + 1))) ∙ role_is in
    let pin : place_of (take (colon_place word) word) nets ≡ Some place = ap (λ n. place_of (take n word) nets) (sym colon_is) ∙ place_is in
    ap (λ (found : Option Role). elim found as (λ _. Result (List Pin) SpiceKind) [
      | None ↦ Err BadRole
      | Some given ↦ elim (place_of (pin_part word) nets) as (λ _. Result (List Pin) SpiceKind) [
        | None ↦ Err BadRole
        | Some at ↦ with_role given pins at (slice_get pins at)
      ]
    ]) role
    ∙ ap (λ (found : Option ℕ). elim found as (λ _. Result (List Pin) SpiceKind) [
      | None ↦ Err BadRole
      | Some at ↦ with_role taken pins at (slice_get pins at)
    ]) pin
