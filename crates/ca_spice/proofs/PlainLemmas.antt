-- The names of a subcircuit that was read are plain.
use Rattle.std.proofs.Common.{◌≡◌, ◌≢◌, ℕ, zero, suc, ◌+◌, inl, inr, Bool, true, false, true≢false, cond}
use Rattle.std.proofs.Common.{List, [], ◌∷◌, length, map, Option, Some, None, Result, Ok, Err, refl, sym, ◌∙◌}
use Rattle.std.proofs.Common.{ap, subst, arith}
use Rattle.std.specs.Prelude.{slice_get, Contains}
use Rattle.std.specs.Str.{bytes_eq}
use Rattle.std.proofs.lemmas.Slice.Eq.{bytes_eq-Decides}
use Rattle.std.specs.List.{AllByRecursion}
use Rattle.std.proofs.lemmas.Bool.Decides.{Decides-eqb}
use Rattle.std.proofs.lemmas.List.{length-map, length-append}
use Rattle.std.proofs.lemmas.List.Elements.{All-from_recursion}
use Rattle.ca_lex.specs.Words.{upper_case}
use Rattle.ca_cell.specs.declared.strength.StrengthTable.{StrengthTable}
use Rattle.ca_cell.specs.declared.raw.RawDevice.{RawDevice}
use Rattle.ca_cell.specs.declared.raw.RawPin.{RawPin}
use Rattle.ca_cell.specs.declared.raw.RawCell.{RawCell}
use Rattle.ca_cell.specs.PlainNames.{IsPlain, Differ, device_names, HasPlainNames}
use Rattle.ca_spice.specs.declared.fault.SpiceFault.{SpiceFault}
use Rattle.ca_spice.specs.declared.subcircuit.Subcircuit.{Subcircuit}
use Rattle.ca_spice.specs.Reading.{library_of}
use Rattle.ca_spice.specs.Called.{called_among, cell_called}
use Rattle.ca_spice.specs.Writing.{pin_names, IsReadable}
use Rattle.ca_spice.proofs.SpelledLemmas.{IsInside, IsOneWord, IsSpelled, not_sign}
use Rattle.ca_spice.proofs.CardLemmas.{IsNameWord, IsCard}
use Rattle.ca_spice.proofs.DistinctLemmas.{AreDistinct}
use Rattle.ca_spice.proofs.FoundLemmas.{later}
use Rattle.ca_spice.proofs.ReadableLemmas.{readable_writable}

no_sign : (byte : ℕ) → IsInside byte → byte ≢ 61
no_sign byte is same = true≢false (sym ((Decides-eqb byte 61).1 same) ∙ not_sign byte is)

no_signs : (text : List ℕ) → AllByRecursion IsInside text → AllByRecursion (λ byte. byte ≢ 61) text
no_signs [] all = tt
no_signs (byte ∷ text) all = (no_sign byte all.0, no_signs text all.1)

-- one word is a plain name
plain_word : (word : List ℕ) → IsOneWord word → IsPlain word
plain_word [] one = absurd one
plain_word (byte ∷ word) (inl is) = inl is
plain_word (byte ∷ word) (inr all) =
    inr (λ empty. cc, All-from_recursion (λ byte. byte ≢ 61) (byte ∷ word) (no_signs (byte ∷ word) all))

plain_words : (words : List (List ℕ)) → AllByRecursion IsSpelled words → AllByRecursion IsPlain words
plain_words [] all = tt
plain_words (word ∷ words) all = (plain_word word all.0.one, plain_words words all.1)

-- a word at a place is spelled
spelled_at : (words : List (List ℕ)) (place : ℕ) (word : List ℕ) → AllByRecursion IsSpelled words → slice_get words place ≡ Some word → IsSpelled word
spelled_at [] place word all there = absurd cc
spelled_at (first ∷ words) zero word all there =
    let same : first ≡ word = cc in subst IsSpelled same all.0
spelled_at (first ∷ words) (suc place) word all there = spelled_at words place word all.1 there

-- different words in upper case differ in upper case
differ : (words : List (List ℕ)) → AllByRecursion IsSpelled words → AreDistinct words → Differ words
differ words all distinct one other first second there there_too same =
    let here = spelled_at words one first all there in
    let again = spelled_at words other second all there_too in
    let equal : second ≡ first = sym again.upper ∙ sym same ∙ here.upper in
    distinct one other first there (there_too ∙ ap Some equal)

-- the names of devices are words
spelled_devices : (table : StrengthTable) → (devices : List RawDevice) → AllByRecursion (IsCard table) devices
    → AllByRecursion IsSpelled (map (λ (device : RawDevice). device.name) devices)
spelled_devices table [] all = tt
spelled_devices table (device ∷ devices) all = (all.0.named.spelled, spelled_devices table devices all.1)

spelled_nets : (nets : List (List ℕ)) → AllByRecursion IsNameWord nets → AllByRecursion IsSpelled nets
spelled_nets [] all = tt
spelled_nets (net ∷ nets) all = (all.0.spelled, spelled_nets nets all.1)

-- the subcircuit that has the name is among them
held_among : (cells : List Subcircuit) (name : List ℕ) (raw : RawCell) → called_among cells name ≡ Some raw
    → Contains cells (record { name = name; raw = raw })
held_among [] name raw is = absurd cc
held_among (cell ∷ cells) name raw is = by (bytes_eq name cell.name) refl is (held_among cells name raw)
  where
    by : (same : Bool) → bytes_eq name cell.name ≡ same → cond same (Some cell.raw) (called_among cells name) ≡ Some raw
        → (called_among cells name ≡ Some raw → Contains cells (record { name = name; raw = raw }))
        → Contains (cell ∷ cells) (record { name = name; raw = raw })
    by true names is rest =
        let same_name : cell.name ≡ name = sym ((bytes_eq-Decides name cell.name).0 names) in
        let same_raw : cell.raw ≡ raw = cc in
        (0, omega arith, λ j. record { name = same_name j; raw = same_raw j })
    by false names is rest = later cell cells (record { name = name; raw = raw }) (rest is)

-- a subcircuit that a word names in a text is one that some text reads as
readable : (table : StrengthTable) → (bytes word : List ℕ) (raw : RawCell) → cell_called table bytes word ≡ Some raw → IsReadable table word raw
readable table bytes word raw called = by (library_of table bytes) refl called
  where
    by : (read : Result (List Subcircuit) SpiceFault) → library_of table bytes ≡ read
        → elim read as (λ _. Option RawCell) [ Ok cells ↦ called_among cells (upper_case word) | Err fault ↦ None ] ≡ Some raw
        → IsReadable table word raw
    by (Ok cells) read called = record { text = bytes; cells = cells; read = read; holds = held_among cells (upper_case word) raw called }
    by (Err fault) read called = absurd cc

-- the names of a subcircuit that a word names in a text are plain
pub plain_names : (table : StrengthTable) → (bytes word : List ℕ) (raw : RawCell) → cell_called table bytes word ≡ Some raw → HasPlainNames raw
plain_names table bytes word raw called =
    let writable = readable_writable table word raw (readable table bytes word raw called) in
    let names = writable.names in
    let devices = spelled_devices table raw.devices writable.cards in
    let nets = spelled_nets raw.nets names.named in
    record {
      pins =
          let all : length raw.nets ≡ length raw.pins + length names.pins_first.more =
          ap length names.pins_first.is ∙ length-append (pin_names raw.pins) names.pins_first.more
          ∙ ap (λ (n : ℕ). n + length names.pins_first.more) (length-map raw.pins (λ (pin : RawPin). pin.name)) in
          omega (arith, all);
      nets = All-from_recursion IsPlain raw.nets (plain_words raw.nets nets);
      nets_differ = differ raw.nets nets names.nets_distinct;
      devices = All-from_recursion IsPlain (device_names raw) (plain_words (device_names raw) devices);
      devices_differ = differ (device_names raw) devices names.devices_distinct;
    }
