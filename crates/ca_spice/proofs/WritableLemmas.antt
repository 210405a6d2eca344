-- What is read can be written: each subcircuit that a text reads as has cards that read as its devices again.
use Rattle.std.proofs.Common.{◌≡◌, ℕ, suc, zero, ◌⊎◌, inl, inr, true, false, not, List, [], ◌∷◌, ◌++◌, length, map}
use Rattle.std.proofs.Common.{Option, Some, None, Result, Ok, Err, refl, sym, ap, ◌∙◌, subst, append_assoc}
use Rattle.std.specs.Prelude.{slice_get, slice_set, is_some}
use Rattle.std.specs.List.{AllByRecursion}
use Rattle.std.proofs.lemmas.List.{append-nil, map-append}
use Rattle.ca_net.specs.declared.device.DeviceKind.{DeviceKind}
use Rattle.ca_net.specs.declared.device.DeviceKind.TheVariants as kind
use Rattle.ca_lex.specs.FirstFault.{steps_from}
use Rattle.ca_lex.proofs.FirstFaultLemmas.{after_step, steps_from-cons}
use Rattle.ca_cell.specs.declared.strength.StrengthTable.{StrengthTable}
use Rattle.ca_cell.specs.declared.raw.Role.{Role}
use Rattle.ca_cell.specs.declared.raw.RawPin.{RawPin}
use Rattle.ca_cell.specs.declared.raw.RawDevice.{RawDevice}
use Rattle.ca_spice.specs.declared.card.Card.TheVariants as card
use Rattle.ca_spice.specs.declared.fault.SpiceKind.{SpiceKind}
use Rattle.ca_spice.specs.declared.fault.SpiceKind.TheVariants.{BadCard, BadRole}
use Rattle.ca_spice.specs.declared.pin.Pin.{Pin}
use Rattle.ca_names.specs.Names.{place_of, place_with, with_name, has_double}
use Rattle.ca_spice.specs.Card.{card_of}
use Rattle.ca_spice.specs.Mos.{Wiring, Sizes, sizes_of, resistor_sizes}
use Rattle.ca_spice.specs.PinInfo as info
use Rattle.ca_spice.specs.OpenCell.{OpenCell, with_source, device_of, has_device, pins_after}
use Rattle.ca_spice.specs.Reading.{is_header}
use Rattle.ca_spice.specs.Writing.{pin_names, bulk_of}
use Rattle.ca_spice.proofs.CellLemmas.{placed_again}
use Rattle.ca_spice.proofs.SpelledLemmas.{IsSpelled, all_append}
use Rattle.ca_spice.proofs.CardLemmas.{IsNameWord, IsTransistor, IsResistor, IsCard, IsWired, kept_rule, kept_value}
use Rattle.ca_spice.proofs.CardLemmas.{sizes_found}
use Rattle.ca_spice.proofs.DistinctLemmas.{AreNames, names_grown}
use Rattle.ca_spice.proofs.OrderLemmas.{AreOrdered, ordered_push, device_mentions}

-- a subcircuit that is being read
abbrev pub open_with : ℕ → List ℕ → List Pin → List (List ℕ) → List RawDevice → OpenCell
open_with line name pins nets devices = record { line = line; name = name; pins = pins; nets = nets; devices = devices }

-- a subcircuit that can be written: a header and cards can spell it, and its devices mention its nets in order
pub record IsWritable (table : StrengthTable) (name : List ℕ) (pins nets : List (List ℕ)) (devices : List RawDevice) : Type 0 where
  pub named : IsSpelled name
  pub header : is_header (name ∷ pins) ≡ true
  pub spelled : AllByRecursion IsSpelled pins
  pub distinct : has_double pins ≡ false
  pub cards : AllByRecursion (IsCard table) devices
  pub order : AreOrdered (length pins) devices (length nets)
  pub names : AreNames pins nets devices

-- the first step of some
pub record IsFirstStep {State Item Fault : Type 0} (step : Item → State → Result State Fault) (start last : State) (item : Item) (items : List Item) : Type 0 where
  pub next : State
  pub stepped : step item start ≡ Ok next
  pub rest : steps_from step next items ≡ Ok last

pub first_step : {State Item Fault : Type 0} (step : Item → State → Result State Fault) (start last : State) (item : Item) (items : List Item)
    → steps_from step start (item ∷ items) ≡ Ok last → IsFirstStep step start last item items
first_step {State} {Item} {Fault} step start last item items read = by (step item start) refl (sym (steps_from-cons step start item items) ∙ read)
  where
    by : (given : Result State Fault) → step item start ≡ given → after_step step given items ≡ Ok last → IsFirstStep step start last item items
    by (Ok next) stepped rest = record { next = next; stepped = stepped; rest = rest }
    by (Err fault) stepped rest = absurd cc

pub bulk_named : (p_bulk n_bulk : List ℕ) (k : DeviceKind) → (k ≡ kind.P) ⊎ (k ≡ kind.N) → IsNameWord p_bulk → IsNameWord n_bulk → IsNameWord (bulk_of p_bulk n_bulk k)
bulk_named p_bulk n_bulk k (inl is) p_is n_is = subst (λ (k : DeviceKind). IsNameWord (bulk_of p_bulk n_bulk k)) (sym is) p_is
bulk_named p_bulk n_bulk k (inr is) p_is n_is = subst (λ (k : DeviceKind). IsNameWord (bulk_of p_bulk n_bulk k)) (sym is) n_is

-- the device of an M card
pub transistor_of : (table : StrengthTable) → (name : List ℕ) (wiring : Wiring) (sizes : Sizes) (nets : List (List ℕ)) → card_of name ≡ card.Mos
    → (wiring.kind ≡ kind.P) ⊎ (wiring.kind ≡ kind.N) → sizes_of wiring.params ≡ Some sizes → IsTransistor (device_of table name wiring sizes nets)
transistor_of table name wiring sizes nets mos kinds sized =
    let size = sizes_found wiring.params sizes sized in
    record { kind = kinds; mos = mos; width = size.0; channel = size.1 }

-- the device of an R card
pub resistor_of : (table : StrengthTable) → (name : List ℕ) (wiring : Wiring) (nets : List (List ℕ)) → card_of name ≡ card.Resistor
    → wiring.kind ≡ kind.D → wiring.gate ≡ wiring.drain → IsResistor (device_of table name wiring resistor_sizes nets)
resistor_of table name wiring nets resistor is gate = record {
  kind = is;
  resistor = resistor;
  width = refl;
  channel = refl;
  gate = ap (λ (net : List ℕ). place_with net (with_name wiring.drain nets)) gate ∙ placed_again wiring.drain nets;
}

-- a subcircuit with one device more can be written
pub writable_grown : (table : StrengthTable) → (cell_name : List ℕ) (pins nets : List (List ℕ)) (devices : List RawDevice) (name : List ℕ) (wiring : Wiring) (sizes : Sizes)
    → IsWritable table cell_name pins nets devices → IsNameWord name → IsWired name wiring
    → IsTransistor (device_of table name wiring sizes nets) ⊎ IsResistor (device_of table name wiring sizes nets)
    → has_device name devices ≡ false → IsWritable table cell_name pins (with_source wiring nets) (devices ++ device_of table name wiring sizes nets ∷ [])
writable_grown table cell_name pins nets devices name wiring sizes it named wired kept new = record {
  named = it.named;
  header = it.header;
  spelled = it.spelled;
  distinct = it.distinct;
  cards = all_append (IsCard table) devices (device_of table name wiring sizes nets ∷ []) it.cards (record { named = named; kept = kept; strong = refl }, tt);
  order = ordered_push (length pins) devices (device_of table name wiring sizes nets) (length nets) (length (with_source wiring nets)) it.order
      (device_mentions table name wiring sizes nets);
  names = names_grown table pins nets devices name wiring sizes it.names wired new;
}

-- the names of pins that are being read
abbrev pub names_shown : List Pin → List (List ℕ)
names_shown pins = map (λ pin. pin.name) pins

role_set : (pins : List Pin) (place : ℕ) (pin : Pin) (role : Option Role) → slice_get pins place ≡ Some pin
    → names_shown (slice_set pins place (record { name = pin.name; role = role })) ≡ names_shown pins
role_set [] place pin role is = absurd cc
role_set (first ∷ pins) zero pin role is =
    let same : pin ≡ first = cc in
    ap (λ (p : Pin). p.name ∷ names_shown pins) same
role_set (first ∷ pins) (suc place) pin role is = ap (λ (names : List (List ℕ)). first.name ∷ names) (role_set pins place pin role is)

role_names : (nets : List (List ℕ)) (word : List ℕ) (pins next : List Pin) → info.role_step nets word pins ≡ Ok next → names_shown next ≡ names_shown pins
unfolding info.role_step
role_names nets word pins next is = by_role (info.role_of (info.role_part word)) is
  where
    by_pin : (taken : Role) (place : ℕ) (found : Option Pin) → slice_get pins place ≡ found → info.with_role taken pins place found ≡ Ok next → names_shown next ≡ names_shown pins
    by_pin taken place None found is = absurd cc
    by_pin taken place (Some pin) found is =
        let value = kept_value (is_some pin.role) BadRole (slice_set pins place (record { name = pin.name; role = Some taken })) next is in
        ap names_shown value.1 ∙ role_set pins place pin (Some taken) found

    by_place : (taken : Role) (found : Option ℕ)
        → elim found as (λ _. Result (List Pin) SpiceKind) [ None ↦ Err BadRole | Some place ↦ info.with_role taken pins place (slice_get pins place) ] ≡ Ok next → names_shown next ≡ names_shown pins
    by_place taken None is = absurd cc
    by_place taken (Some place) is = by_pin taken place (slice_get pins place) refl is

    by_role : (found : Option Role)
        → elim found as (λ _. Result (List Pin) SpiceKind) [
          | None ↦ Err BadRole
          | Some taken ↦ elim (place_of (info.pin_part word) nets) as (λ _. Result (List Pin) SpiceKind) [ None ↦ Err BadRole | Some place ↦ info.with_role taken pins place (slice_get pins place) ]
        ] ≡ Ok next → names_shown next ≡ names_shown pins
    by_role None is = absurd cc
    by_role (Some taken) is = by_place taken (place_of (info.pin_part word) nets) is

roles_names : (nets words : List (List ℕ)) (pins next : List Pin) → steps_from (info.role_step nets) pins words ≡ Ok next → names_shown next ≡ names_shown pins
unfolding steps_from
roles_names nets [] pins next is =
    let same : next ≡ pins = cc in
    ap names_shown same
roles_names nets (word ∷ words) pins next is =
    let first = first_step (info.role_step nets) pins next word words is in
    roles_names nets words first.next next first.rest ∙ role_names nets word pins first.next first.stepped

-- roles leave the names of the pins
pub pin_info_names : (nets words : List (List ℕ)) (pins next : List Pin) → info.pin_info nets words pins ≡ Ok next → names_shown next ≡ names_shown pins
unfolding info.pin_info
pin_info_names nets words pins next is =
    roles_names nets words pins next (kept_rule (not (info.are_pin_words words)) BadCard (steps_from (info.role_step nets) pins words) next is).1

-- and so do pins with their roles
pub after_names : (done : List RawPin) (pins : List Pin) (raw : List RawPin) → pins_after done pins ≡ Some raw → pin_names raw ≡ pin_names done ++ names_shown pins
unfolding pins_after
after_names done [] raw is =
    let same : raw ≡ done = cc in
    ap pin_names same ∙ sym (append-nil (pin_names done))
after_names done (pin ∷ pins) raw is = by pin.role (λ grown. after_names grown pins raw) is
  where
    by : (given : Option Role)
        → ((grown : List RawPin) → pins_after grown pins ≡ Some raw → pin_names raw ≡ pin_names grown ++ names_shown pins)
        → elim given as (λ _. Option (List RawPin)) [ None ↦ None | Some role ↦ pins_after (done ++ record { name = pin.name; role = role } ∷ []) pins ] ≡ Some raw
        → pin_names raw ≡ pin_names done ++ names_shown (pin ∷ pins)
    by None later is = absurd cc
    by (Some role) later is =
        let shown : RawPin = record { name = pin.name; role = role } in
        later (done ++ shown ∷ []) is
        ∙ ap (λ (names : List (List ℕ)). names ++ names_shown pins) (map-append (λ (p : RawPin). p.name) done (shown ∷ []))
        ∙ append_assoc (pin_names done) (pin.name ∷ []) (names_shown pins)
