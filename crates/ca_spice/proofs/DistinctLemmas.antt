-- The nets and the devices of a subcircuit that is being read have different names.
use Rattle.std.proofs.Common.{◌≡◌, ℕ, zero, suc, ◌⊎◌, inl, inr, Bool, true, false, true≢false, ◌||◌, cond}
use Rattle.std.proofs.Common.{List, [], ◌∷◌, ◌++◌, length, map, Some, refl, sym, ◌∙◌, ap, subst, append_assoc, arith}
use Rattle.std.specs.Prelude.{slice_get}
use Rattle.std.specs.Str.{bytes_eq}
use Rattle.std.specs.List.{AllByRecursion}
use Rattle.std.proofs.lemmas.List.{append-nil, map-append}
use Rattle.std.proofs.lemmas.Slice.Eq.{bytes_eq-Decides}
use Rattle.std.proofs.lemmas.Bool.{or_from, false_from_ne_true}
use Rattle.std.proofs.lemmas.Option.{none-some, same_Some}
use Rattle.ca_cell.specs.declared.strength.StrengthTable.{StrengthTable}
use Rattle.ca_cell.specs.declared.raw.RawDevice.{RawDevice}
use Rattle.ca_names.specs.Names.{has_name, with_name, repeats, has_double}
use Rattle.ca_spice.specs.Mos.{Wiring, Sizes}
use Rattle.ca_spice.specs.OpenCell.{with_drain, with_gate, with_source, device_of, has_device}
use Rattle.ca_spice.proofs.SpelledLemmas.{all_append}
use Rattle.ca_spice.proofs.CardLemmas.{IsNameWord, Extends, with_name-extends, extends_further, IsWired}

-- a name is at one place
abbrev pub AreDistinct : List (List ℕ) → Type 0
AreDistinct names = (one other : ℕ) (name : List ℕ) → slice_get names one ≡ Some name → slice_get names other ≡ Some name → one ≡ other

-- the names of devices
abbrev pub names_of : List RawDevice → List (List ℕ)
names_of devices = map (λ (device : RawDevice). device.name) devices

-- the names of a subcircuit: the pins are the first nets, and no name occurs twice
pub record AreNames (pins nets : List (List ℕ)) (devices : List RawDevice) : Type 0 where
  pub pins_first : Extends pins nets
  pub named : AllByRecursion IsNameWord nets
  pub nets_distinct : AreDistinct nets
  pub devices_distinct : AreDistinct (names_of devices)

left_false : (one other : Bool) → (one || other) ≡ false → one ≡ false
left_false true other is = absurd cc
left_false false other is = refl

right_false : (one other : Bool) → (one || other) ≡ false → other ≡ false
right_false true other is = absurd cc
right_false false other is = is

-- a name that names don't have is nowhere among them
absent : (name : List ℕ) (names : List (List ℕ)) → has_name name names ≡ false → (place : ℕ) → slice_get names place ≡ Some name → ⊥
absent name [] lacks place there = cc
absent name (first ∷ names) lacks zero there =
    let same : name ≡ first = cc in
    true≢false (sym ((bytes_eq-Decides name first).1 same) ∙ left_false (bytes_eq name first) (has_name name names) lacks)
absent name (first ∷ names) lacks (suc place) there =
    absent name names (right_false (bytes_eq name first) (has_name name names) lacks) place there

-- where a name is among names with one more
in_pushed : (names : List (List ℕ)) (last name : List ℕ) (place : ℕ) → slice_get (names ++ last ∷ []) place ≡ Some name
    → (slice_get names place ≡ Some name) ⊎ ((place ≡ length names) × (last ≡ name))
in_pushed [] last name zero there = inr (refl, cc)
in_pushed [] last name (suc place) there = absurd cc
in_pushed (first ∷ names) last name zero there = inl there
in_pushed (first ∷ names) last name (suc place) there = elim (in_pushed names last name place there) [
  | inl before ↦ inl before
  | inr (at_end, same) ↦ inr (ap suc at_end, same)
]

pub distinct_pushed : (names : List (List ℕ)) (last : List ℕ) → AreDistinct names → has_name last names ≡ false → AreDistinct (names ++ last ∷ [])
distinct_pushed names last distinct lacks one other name there there_too = by (in_pushed names last name one there) (in_pushed names last name other there_too)
  where
    by : (slice_get names one ≡ Some name) ⊎ ((one ≡ length names) × (last ≡ name))
        → (slice_get names other ≡ Some name) ⊎ ((other ≡ length names) × (last ≡ name)) → one ≡ other
    by (inl before) (inl before_too) = distinct one other name before before_too
    by (inl before) (inr (at_end, same)) = absurd (absent last names lacks one (before ∙ ap Some (sym same)))
    by (inr (at_end, same)) (inl before) = absurd (absent last names lacks other (before ∙ ap Some (sym same)))
    by (inr (at_end, same)) (inr (at_end_too, same_too)) = at_end ∙ sym at_end_too

distinct_with : (name : List ℕ) (names : List (List ℕ)) → AreDistinct names → AreDistinct (with_name name names)
distinct_with name names distinct = by (has_name name names) refl
  where
    by : (found : Bool) → has_name name names ≡ found → AreDistinct (cond found names (names ++ name ∷ []))
    by true has = distinct
    by false lacks = distinct_pushed names name distinct lacks

named_with : (name : List ℕ) (names : List (List ℕ)) → IsNameWord name → AllByRecursion IsNameWord names → AllByRecursion IsNameWord (with_name name names)
named_with name names is all = by (has_name name names)
  where
    by : (found : Bool) → AllByRecursion IsNameWord (cond found names (names ++ name ∷ []))
    by true = all
    by false = all_append IsNameWord names (name ∷ []) all (is, tt)

-- words of which none occurs twice
distinct_after : (seen words : List (List ℕ)) → repeats seen words ≡ false → AreDistinct seen → AreDistinct (seen ++ words)
unfolding repeats
distinct_after seen [] none distinct = subst AreDistinct (sym (append-nil seen)) distinct
distinct_after seen (word ∷ words) none distinct =
    subst AreDistinct (append_assoc seen (word ∷ []) words)
    (distinct_after (seen ++ word ∷ []) words (right_false (has_name word seen) (repeats (seen ++ word ∷ []) words) none)
    (distinct_pushed seen word distinct (left_false (has_name word seen) (repeats (seen ++ word ∷ []) words) none)))

distinct_pins : (pins : List (List ℕ)) → has_double pins ≡ false → AreDistinct pins
distinct_pins pins none = distinct_after [] pins none (λ one other name there. absurd cc)

-- the names of a subcircuit without devices
pub names_begun : (pins : List (List ℕ)) → AllByRecursion IsNameWord pins → has_double pins ≡ false → AreNames pins pins []
names_begun pins named none = record {
  pins_first = record { more = []; is = sym (append-nil pins) };
  named = named;
  nets_distinct = distinct_pins pins none;
  devices_distinct = λ one other name there. absurd cc;
}

pub has_device-named : (name : List ℕ) (devices : List RawDevice) → has_device name devices ≡ has_name name (names_of devices)
has_device-named name [] = refl
has_device-named name (device ∷ devices) = ap (λ (more : Bool). bytes_eq name device.name || more) (has_device-named name devices)

-- and with one device more
pub names_grown : (table : StrengthTable) → (pins nets : List (List ℕ)) (devices : List RawDevice) (name : List ℕ) (wiring : Wiring) (sizes : Sizes) → AreNames pins nets devices
    → IsWired name wiring → has_device name devices ≡ false → AreNames pins (with_source wiring nets) (devices ++ device_of table name wiring sizes nets ∷ [])
names_grown table pins nets devices name wiring sizes it wired new =
    let with_one : List (List ℕ) = with_drain wiring nets in
    let with_two : List (List ℕ) = with_gate wiring nets in
    record {
      pins_first = extends_further pins nets (with_source wiring nets) it.pins_first
          (extends_further nets with_one (with_source wiring nets) (with_name-extends wiring.drain nets)
          (extends_further with_one with_two (with_source wiring nets) (with_name-extends wiring.gate with_one) (with_name-extends wiring.source with_two)));
      named = named_with wiring.source with_two wired.source
          (named_with wiring.gate with_one wired.gate (named_with wiring.drain nets wired.drain it.named));
      nets_distinct = distinct_with wiring.source with_two (distinct_with wiring.gate with_one (distinct_with wiring.drain nets it.nets_distinct));
      devices_distinct = subst AreDistinct (sym (map-append (λ (device : RawDevice). device.name) devices (device_of table name wiring sizes nets ∷ [])))
          (distinct_pushed (names_of devices) name it.devices_distinct (sym (has_device-named name devices) ∙ new));
    }

distinct_rest : (first : List ℕ) (names : List (List ℕ)) → AreDistinct (first ∷ names) → AreDistinct names
distinct_rest first names distinct one other name there there_too =
    let same = distinct (suc one) (suc other) name there there_too in omega (arith, same)

there_after : (before : List (List ℕ)) (name : List ℕ) (following : List (List ℕ)) → slice_get (before ++ name ∷ following) (length before) ≡ Some name
there_after [] name following = refl
there_after (first ∷ before) name following = there_after before name following

-- a name among different ones is not among those before it
pub absent_before : (before : List (List ℕ)) (name : List ℕ) (following : List (List ℕ)) → AreDistinct (before ++ name ∷ following) → has_name name before ≡ false
absent_before [] name following distinct = refl
absent_before (first ∷ before) name following distinct =
    or_from (bytes_eq name first) (has_name name before)
    (false_from_ne_true (bytes_eq name first) (λ same.
    let place = distinct zero (suc (length before)) name (ap Some (sym ((bytes_eq-Decides name first).0 same))) (there_after before name following) in
    omega (arith, place)))
    (absent_before before name following (distinct_rest first (before ++ name ∷ following) distinct))

-- names of which each is, in its order, among others
pub data IsAmong : List (List ℕ) → List (List ℕ) → Type 0 where
  NoNames : IsAmong [] []
  Keeps : {some all : List (List ℕ)} (name : List ℕ) → IsAmong some all → IsAmong (name ∷ some) (name ∷ all)
  Leaves : {some all : List (List ℕ)} (name : List ℕ) → IsAmong some all → IsAmong some (name ∷ all)

among_there : {some all : List (List ℕ)} → IsAmong some all → (place : ℕ) (name : List ℕ) → slice_get some place ≡ Some name
    → (other : ℕ) × (slice_get all other ≡ Some name)
among_there NoNames place name there = absurd (none-some name there)
among_there (Keeps first among) zero name there = (zero, there)
among_there (Keeps first among) (suc place) name there =
    let found = among_there among place name there in (suc found.0, found.1)
among_there (Leaves first among) place name there =
    let found = among_there among place name there in (suc found.0, found.1)

first_once : (first : List ℕ) (names : List (List ℕ)) (place : ℕ) → AreDistinct (first ∷ names) → slice_get names place ≡ Some first → ⊥
first_once first names place distinct there =
    let same = distinct zero (suc place) first refl there in omega (arith, same)

-- some of different names differ
pub distinct_among : {some all : List (List ℕ)} → IsAmong some all → AreDistinct all → AreDistinct some
distinct_among NoNames distinct one other name there there_too = absurd (none-some name there)
distinct_among (Keeps first among) distinct zero zero name there there_too = refl
distinct_among (Keeps first among) distinct zero (suc other) name there there_too =
    let found = among_there among other name there_too in
    absurd (first_once first _ found.0 distinct (found.1 ∙ ap Some (sym (same_Some first name there))))
distinct_among (Keeps first among) distinct (suc one) zero name there there_too =
    let found = among_there among one name there in
    absurd (first_once first _ found.0 distinct (found.1 ∙ ap Some (sym (same_Some first name there_too))))
distinct_among (Keeps first among) distinct (suc one) (suc other) name there there_too =
    ap suc (distinct_among among (distinct_rest first _ distinct) one other name there there_too)
distinct_among (Leaves first among) distinct one other name there there_too =
    distinct_among among (distinct_rest first _ distinct) one other name there there_too

pub named_among : {some all : List (List ℕ)} → IsAmong some all → AllByRecursion IsNameWord all → AllByRecursion IsNameWord some
named_among NoNames named = tt
named_among (Keeps first among) named = (named.0, named_among among named.1)
named_among (Leaves first among) named = named_among among named.1
