-- Roles that were written read as the roles.
use Rattle.std.proofs.Common.{◌≡◌, ℕ, suc, ◌+◌, ◌<◌, ◌≤◌, inl, inr, Bool, true, false, true≢false, ◌&&◌, ◌||◌}
use Rattle.std.proofs.Common.{not, cond, eqb, List, [], ◌∷◌, ◌++◌, length, map, take, drop, Option, Some}
use Rattle.std.proofs.Common.{None, Result, Ok, Err, refl, sym, ap, ◌∙◌, arith, append_assoc, length-append}
use Rattle.std.specs.Prelude.{slice_get, slice_set, nat_lt}
use Rattle.std.specs.Char.{to_ascii_uppercase}
use Rattle.std.specs.List.{flat_map, AllByRecursion, list_all}
use Rattle.std.specs.Str.{bytes_eq}
use Rattle.std.proofs.Math.Numerals.{one-add}
use Rattle.std.proofs.Math.Seq.{take-append_seam}
use Rattle.std.proofs.lemmas.List.{map-append, append-nil}
use Rattle.std.proofs.lemmas.List.Folds.{list_all-append}
use Rattle.std.proofs.lemmas.Bool.Decides.{nat_tests}
use Rattle.std.proofs.lemmas.Slice.Eq.{bytes_eq-Decides}
use Rattle.ca_lex.specs.Words.{ends_word, words_of, upper_case}
use Rattle.ca_lex.specs.FirstFault.{steps_from}
use Rattle.ca_lex.proofs.FirstFaultLemmas.{after_step, steps_from-cons}
use Rattle.ca_cell.specs.declared.raw.Role.{Role}
use Rattle.ca_cell.specs.declared.raw.Role.TheVariants as role
use Rattle.ca_cell.specs.declared.raw.RawPin.{RawPin}
use Rattle.ca_spice.specs.declared.fault.SpiceKind.{SpiceKind}
use Rattle.ca_spice.specs.declared.fault.SpiceKind.TheVariants.{BadRole}
use Rattle.ca_spice.specs.declared.pin.Pin.{Pin}
use Rattle.ca_names.specs.Names.{has_name, place_of, place_with, repeats, has_double}
use Rattle.ca_spice.specs.Names.{is_text_byte, is_text, is_name}
use Rattle.ca_spice.specs.Mos.{is_sign}
use Rattle.ca_spice.specs.PinInfo.{last_colon, colon_place, pin_part, role_part, is_pin_word, are_pin_words}
use Rattle.ca_spice.specs.PinInfo.{role_of, with_role, role_step, pin_info}
use Rattle.ca_spice.specs.OpenCell.{pin_of, pins_after}
use Rattle.ca_spice.specs.Reading.{is_header_word}
use Rattle.ca_spice.specs.Writing.{pin_names, role_letter, pin_word}
use Rattle.ca_spice.proofs.PinLemmas.{left_true, right_true, pin_info-steps}
use Rattle.ca_spice.proofs.SpelledLemmas.{HasNoComment, all_append, IsInside, IsOneWord, IsSpelled}
use Rattle.ca_spice.proofs.SizeLemmas.{no_comment, run_alone}
use Rattle.ca_spice.proofs.WrittenLemmas.{IsChunk}

-- a name of a header
pub record IsPinName (name : List ℕ) : Type 0 where
  pub spelled : IsSpelled name
  pub header : is_header_word name ≡ true

-- a pin with its role
abbrev pub with_its_role : RawPin → Pin
with_its_role pin = record { name = pin.name; role = Some pin.role }

-- bytes in front move the place of the last `:`
last_colon-append : (place found : ℕ) (text more : List ℕ) → last_colon place found (text ++ more) ≡ last_colon (place + length text) (last_colon place found text) more
unfolding last_colon
last_colon-append place found [] more = ap (λ (p : ℕ). last_colon p found more) (omega arith)
last_colon-append place found (byte ∷ text) more =
    let moved : place + 1 + length text ≡ place + length (byte ∷ text) = omega arith in
    last_colon-append (place + 1) (cond (eqb byte 58) place found) text more
    ∙ ap (λ (p : ℕ). last_colon p (last_colon (place + 1) (cond (eqb byte 58) place found) text) more) moved

last_two : (place found : ℕ) (given : Role) → last_colon place found (58 ∷ role_letter given ∷ []) ≡ place
unfolding last_colon
last_two place found role.Input = refl
last_two place found role.Output = refl
last_two place found role.Power = refl
last_two place found role.Ground = refl

colon_after : (pin : RawPin) → colon_place (pin_word pin) ≡ length pin.name
colon_after pin =
    last_colon-append 0 (length (pin_word pin)) pin.name (58 ∷ role_letter pin.role ∷ [])
    ∙ last_two (0 + length pin.name) (last_colon 0 (length (pin_word pin)) pin.name) pin.role ∙ omega arith

drop_after : (text : List ℕ) (byte : ℕ) (rest : List ℕ) → drop (length text + 1) (text ++ byte ∷ rest) ≡ rest
drop_after [] byte rest = refl
drop_after (first ∷ text) byte rest =
    let more : length (first ∷ text) + 1 ≡ suc (length text + 1) = omega arith in
    ap (λ (n : ℕ). drop n (first ∷ text ++ byte ∷ rest)) more ∙ drop_after text byte rest

pin_part-written : (pin : RawPin) → pin_part (pin_word pin) ≡ pin.name
pin_part-written pin = ap (λ (place : ℕ). take place (pin_word pin)) (colon_after pin) ∙ take-append_seam pin.name (58 ∷ role_letter pin.role ∷ [])

role_letter-read : (given : Role) → role_of (role_letter given ∷ []) ≡ Some given
unfolding role_of
role_letter-read role.Input = refl
role_letter-read role.Output = refl
role_letter-read role.Power = refl
role_letter-read role.Ground = refl

role_part-written : (pin : RawPin) → role_of (role_part (pin_word pin)) ≡ Some pin.role
role_part-written pin =
    ap (λ (place : ℕ). role_of (drop (place + 1) (pin_word pin))) (colon_after pin)
    ∙ ap role_of (drop_after pin.name 58 (role_letter pin.role ∷ [])) ∙ role_letter-read pin.role

some_bytes : (word : List ℕ) → IsOneWord word → 1 ≤ length word
some_bytes [] one = absurd one
some_bytes (byte ∷ word) one = omega arith

pub name_of : (name : List ℕ) → IsPinName name → is_name name ≡ true
name_of name it = left_true (is_name name) (not (is_sign name)) it.header

no_sign : (name : List ℕ) → IsPinName name → is_sign name ≡ false
no_sign name it = by (is_sign name) (right_true (is_name name) (not (is_sign name)) it.header)
  where
    by : (sign : Bool) → not sign ≡ true → sign ≡ false
    by true is = absurd cc
    by false is = refl

colon_tests : (place len : ℕ) → 0 < place → place < len → (nat_lt 0 place && nat_lt place len) ≡ true
colon_tests place len some within = grind (arith, nat_tests)

is_pin_word-written : (pin : RawPin) → IsPinName pin.name → is_pin_word (pin_word pin) ≡ true
unfolding is_pin_word
is_pin_word-written pin it =
    let some = some_bytes pin.name it.spelled.one in
    let len : length pin.name < length (pin_word pin) = omega (arith, length-append pin.name (58 ∷ role_letter pin.role ∷ [])) in
    let tests : (nat_lt 0 (colon_place (pin_word pin)) && nat_lt (colon_place (pin_word pin)) (length (pin_word pin))) ≡ true =
    ap (λ (place : ℕ). nat_lt 0 place && nat_lt place (length (pin_word pin))) (colon_after pin) ∙ colon_tests (length pin.name) (length (pin_word pin)) (omega arith) len in
    let named : is_name (pin_part (pin_word pin)) ≡ true = ap is_name (pin_part-written pin) ∙ name_of pin.name it in
    λ j. tests j && named j

all_pin_words : (pins : List RawPin) → AllByRecursion IsPinName (pin_names pins) → list_all is_pin_word (map pin_word pins) ≡ true
all_pin_words [] all = refl
all_pin_words (pin ∷ pins) all = λ j. is_pin_word-written pin all.0 j && all_pin_words pins all.1 j

-- a name that isn't among those before it follows them
place_after : (name : List ℕ) (before following : List (List ℕ)) → has_name name before ≡ false → place_with name (before ++ name ∷ following) ≡ length before
place_after name [] following new =
    ap (λ (same : Bool). cond (not same) (1 + place_with name following) 0) ((bytes_eq-Decides name name).1 refl)
place_after name (first ∷ before) following new = by (bytes_eq name first) (place_after name before following) new
  where
    by : (same : Bool) → (has_name name before ≡ false → place_with name (before ++ name ∷ following) ≡ length before) → (same || has_name name before) ≡ false
        → cond (not same) (1 + place_with name (before ++ name ∷ following)) 0 ≡ length (first ∷ before)
    by true rest new = absurd cc
    by false rest new = ap (λ (place : ℕ). 1 + place) (rest new) ∙ one-add (length before)

place_found : (name : List ℕ) (before following : List (List ℕ)) → has_name name before ≡ false → place_of name (before ++ name ∷ following) ≡ Some (length before)
place_found name before following new =
    let within : nat_lt (length before) (length (before ++ name ∷ following)) ≡ true = inside (length before) (length (before ++ name ∷ following)) (omega (arith, length-append before (name ∷ following))) in
    ap (λ (place : ℕ). cond (nat_lt place (length (before ++ name ∷ following))) (Some place) None) (place_after name before following new)
    ∙ ap (λ (is : Bool). cond is (Some (length before)) None) within
  where
    inside : (place len : ℕ) → place < len → nat_lt place len ≡ true
    inside place len below = grind (arith, nat_tests)

get_after : (before following : List Pin) (pin : Pin) → slice_get (before ++ pin ∷ following) (length before) ≡ Some pin
get_after [] following pin = refl
get_after (first ∷ before) following pin = get_after before following pin

set_after : (before following : List Pin) (pin other : Pin) → slice_set (before ++ pin ∷ following) (length before) other ≡ before ++ other ∷ following
set_after [] following pin other = refl
set_after (first ∷ before) following pin other = ap (λ (pins : List Pin). first ∷ pins) (set_after before following pin other)

-- a word of a role gives the role to its pin
role_taken : (nets before : List (List ℕ)) (made following : List Pin) (pin : RawPin) (more : List (List ℕ)) → nets ≡ before ++ pin.name ∷ more → has_name pin.name before ≡ false
    → length made ≡ length before → role_step nets (pin_word pin) (made ++ pin_of pin.name ∷ following) ≡ Ok (made ++ with_its_role pin ∷ following)
unfolding role_step
role_taken nets before made following pin more nets_are new count =
    let pins : List Pin = made ++ pin_of pin.name ∷ following in
    let place : place_of (pin_part (pin_word pin)) nets ≡ Some (length made) =
    ap (λ (name : List ℕ). place_of name nets) (pin_part-written pin) ∙ ap (place_of pin.name) nets_are
    ∙ place_found pin.name before more new ∙ ap (λ (n : ℕ). Some n) (sym count) in
    ap (λ (found : Option Role). elim found as (λ _. Result (List Pin) SpiceKind) [
      | None ↦ Err BadRole
      | Some taken ↦ elim (place_of (pin_part (pin_word pin)) nets) as (λ _. Result (List Pin) SpiceKind) [
        | None ↦ Err BadRole
        | Some at ↦ with_role taken pins at (slice_get pins at)
      ]
    ]) (role_part-written pin)
    ∙ ap (λ (found : Option ℕ). elim found as (λ _. Result (List Pin) SpiceKind) [
      | None ↦ Err BadRole
      | Some at ↦ with_role pin.role pins at (slice_get pins at)
    ]) place
    ∙ ap (with_role pin.role pins (length made)) (get_after made following (pin_of pin.name))
    ∙ ap (λ (all : List Pin). Ok all) (set_after made following (pin_of pin.name) (with_its_role pin))

-- the roles of pins, one after another
roles_taken : (nets seen : List (List ℕ)) (made : List Pin) (pins : List RawPin) → nets ≡ seen ++ pin_names pins → repeats seen (pin_names pins) ≡ false → length made ≡ length seen
    → steps_from (role_step nets) (made ++ map pin_of (pin_names pins)) (map pin_word pins) ≡ Ok (made ++ map with_its_role pins)
unfolding repeats steps_from
roles_taken nets seen made [] nets_are new count = refl
roles_taken nets seen made (pin ∷ pins) nets_are new count =
    let rule = both_false (has_name pin.name seen) (repeats (seen ++ pin.name ∷ []) (pin_names pins)) new in
    let taken = role_taken nets seen made (map pin_of (pin_names pins)) pin (pin_names pins) nets_are rule.0 count in
    steps_from-cons (role_step nets) (made ++ map pin_of (pin_names (pin ∷ pins))) (pin_word pin) (map pin_word pins)
    ∙ ap (λ (given : Result (List Pin) SpiceKind). after_step (role_step nets) given (map pin_word pins)) taken
    ∙ ap (λ (all : List Pin). steps_from (role_step nets) all (map pin_word pins)) (sym (append_assoc made (with_its_role pin ∷ []) (map pin_of (pin_names pins))))
    ∙ roles_taken nets (seen ++ pin.name ∷ []) (made ++ with_its_role pin ∷ []) pins (nets_are ∙ sym (append_assoc seen (pin.name ∷ []) (pin_names pins))) rule.1
    (omega (arith, length-append made (with_its_role pin ∷ []), length-append seen (pin.name ∷ [])))
    ∙ ap (λ (all : List Pin). Ok all) (append_assoc made (with_its_role pin ∷ []) (map with_its_role pins))
  where
    both_false : (x y : Bool) → (x || y) ≡ false → (x ≡ false) × (y ≡ false)
    both_false true y is = absurd cc
    both_false false y is = (refl, is)

some_words : (pins : List RawPin) → 1 ≤ length pins → are_pin_words (map pin_word pins) ≡ list_all is_pin_word (map pin_word pins)
some_words [] some = absurd (omega arith)
some_words (pin ∷ pins) some = refl

-- the words of all pins give each its role
pub roles_read_again : (pins : List RawPin) → 1 ≤ length pins → AllByRecursion IsPinName (pin_names pins) → has_double (pin_names pins) ≡ false
    → pin_info (pin_names pins) (map pin_word pins) (map pin_of (pin_names pins)) ≡ Ok (map with_its_role pins)
roles_read_again pins some all distinct =
    pin_info-steps (pin_names pins) (map pin_word pins) (map pin_of (pin_names pins)) (some_words pins some ∙ all_pin_words pins all)
    ∙ roles_taken (pin_names pins) [] [] pins refl distinct refl

-- and so the pins are those that were written
pub pins_again : (done pins : List RawPin) → pins_after done (map with_its_role pins) ≡ Some (done ++ pins)
unfolding pins_after
pins_again done [] = ap (λ (all : List RawPin). Some all) (sym (append-nil done))
pins_again done (pin ∷ pins) = pins_again (done ++ pin ∷ []) pins ∙ ap (λ (all : List RawPin). Some all) (append_assoc done (pin ∷ []) pins)

-- the words of a line of roles
shown_append : (begins : Bool) (text more : List ℕ) → HasNoComment begins text → AllByRecursion (λ byte. eqb byte 36 ≡ false) more → HasNoComment begins (text ++ more)
shown_append begins [] more shown none = no_comment begins more none
shown_append begins (byte ∷ text) more shown none = (shown.0, shown_append (ends_word byte) text more shown.1 none)

letter_shown : (given : Role) → eqb (role_letter given) 36 ≡ false
letter_shown role.Input = refl
letter_shown role.Output = refl
letter_shown role.Power = refl
letter_shown role.Ground = refl

letter_text : (given : Role) → is_text_byte (role_letter given) ≡ true
letter_text role.Input = refl
letter_text role.Output = refl
letter_text role.Power = refl
letter_text role.Ground = refl

letter_inside : (given : Role) → ends_word (role_letter given) ≡ false
letter_inside role.Input = refl
letter_inside role.Output = refl
letter_inside role.Power = refl
letter_inside role.Ground = refl

letter_upper : (given : Role) → to_ascii_uppercase (role_letter given) ≡ role_letter given
letter_upper role.Input = refl
letter_upper role.Output = refl
letter_upper role.Power = refl
letter_upper role.Ground = refl

pin_word-chunk : (pin : RawPin) → IsPinName pin.name → IsChunk (pin_word pin)
pin_word-chunk pin it = record {
  shown = shown_append true pin.name (58 ∷ role_letter pin.role ∷ []) it.spelled.shown (refl, (letter_shown pin.role, tt));
  text = list_all-append is_text_byte pin.name (58 ∷ role_letter pin.role ∷ []) ∙ (λ j. it.spelled.text j && (true && (letter_text pin.role j && true)));
}

pub pin_chunks : (pins : List RawPin) → AllByRecursion IsPinName (pin_names pins) → AllByRecursion IsChunk (map pin_word pins)
pin_chunks [] all = tt
pin_chunks (pin ∷ pins) all = (pin_word-chunk pin all.0, pin_chunks pins all.1)

name_inside : (name : List ℕ) → IsOneWord name → is_sign name ≡ false → AllByRecursion IsInside name
name_inside [] one none = tt
name_inside (byte ∷ name) (inl is) none = absurd (true≢false (sym (ap is_sign is) ∙ none))
name_inside (byte ∷ name) (inr all) none = all

pin_word-alone : (pin : RawPin) → IsPinName pin.name → words_of (upper_case (pin_word pin)) ≡ pin_word pin ∷ []
pin_word-alone pin it =
    let ends : List ℕ = 58 ∷ role_letter pin.role ∷ [] in
    let upper : upper_case (pin_word pin) ≡ pin_word pin =
    map-append to_ascii_uppercase pin.name ends ∙ (λ j. it.spelled.upper j ++ (58 ∷ letter_upper pin.role j ∷ [])) in
    ap words_of upper
    ∙ run_alone (pin_word pin) (omega (arith, length-append pin.name ends))
    (all_append IsInside pin.name ends (name_inside pin.name it.spelled.one (no_sign pin.name it)) (refl, (letter_inside pin.role, tt)))

pub pin_words : (pins : List RawPin) → AllByRecursion IsPinName (pin_names pins) → flat_map (λ chunk. words_of (upper_case chunk)) (map pin_word pins) ≡ map pin_word pins
pin_words [] all = refl
pin_words (pin ∷ pins) all = λ j. pin_word-alone pin all.0 j ++ pin_words pins all.1 j

pub pin_texts : (pins : List RawPin) → AllByRecursion IsPinName (pin_names pins) → list_all is_text (map pin_word pins) ≡ true
pin_texts [] all = refl
pin_texts (pin ∷ pins) all = λ j. (pin_word-chunk pin all.0).text j && pin_texts pins all.1 j
