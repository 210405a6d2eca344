-- M cards and R cards as they are read, and as they are read again.
use Rattle.std.proofs.Common.{◌≡◌, ℕ, suc, zero, ◌+◌, ◌^◌, ◌<◌, ◌≤◌, ◌⊎◌, inl, inr, Bool, true, false, ◌&&◌, ◌||◌}
use Rattle.std.proofs.Common.{not, cond, eqb, List, [], ◌∷◌, ◌++◌, length, Option, Some, None, Result, Ok, Err, refl}
use Rattle.std.proofs.Common.{sym, ap, ◌∙◌, subst, codes, append_assoc, arith}
use Rattle.std.specs.Prelude.{slice_get, unwrap_or, option_and_then}
use Rattle.std.specs.Fmt.{decimal}
use Rattle.std.specs.List.{AllByRecursion, list_all}
use Rattle.std.specs.Str.{bytes_eq}
use Rattle.std.proofs.lemmas.List.{append-nil}
use Rattle.std.proofs.lemmas.Slice.Eq.{bytes_eq-Decides}
use Rattle.std.proofs.Math.Numerals.{one-add}
use Rattle.ca_net.specs.declared.device.DeviceKind.{DeviceKind}
use Rattle.ca_net.specs.declared.device.DeviceKind.TheVariants as kind
use Rattle.ca_lex.specs.Length.{length_of}
use Rattle.ca_lex.specs.Reading.{unless}
use Rattle.ca_lex.proofs.GrammarLemmas.{length_found}
use Rattle.ca_cell.specs.declared.strength.StrengthTable.{StrengthTable}
use Rattle.ca_cell.specs.declared.raw.RawDevice.{RawDevice}
use Rattle.ca_spice.specs.declared.card.Card.TheVariants as card
use Rattle.ca_spice.specs.declared.fault.SpiceKind.{SpiceKind}
use Rattle.ca_spice.specs.declared.fault.SpiceKind.TheVariants.{BadCard, BadLength, DoubleName}
use Rattle.ca_spice.specs.Card.{card_of}
use Rattle.ca_names.specs.Names.{has_name, with_name, place_with}
use Rattle.ca_spice.specs.Names.{is_name}
use Rattle.ca_spice.specs.Mos.{Wiring, Sizes, are_params, count_of, value_of, are_sound, kind_of, wiring_with}
use Rattle.ca_spice.specs.Mos.{wiring_of, length_at, sizes_of, resistor_wiring, ends_of, resistor_sizes}
use Rattle.ca_spice.specs.OpenCell.{OpenCell, has_device, with_device, device_strength, wired, mos, resistor}
use Rattle.ca_spice.specs.Writing.{net_name, model_of, resistor_words}
use Rattle.ca_spice.proofs.PinLemmas.{left_true, right_true}
use Rattle.ca_spice.proofs.ReadingLemmas.{mos-new, resistor-new}
use Rattle.ca_spice.proofs.SpelledLemmas.{IsSpelled}
use Rattle.ca_spice.proofs.SizeLemmas.{length_of-written}

-- a name of a line
pub record IsNameWord (word : List ℕ) : Type 0 where
  pub spelled : IsSpelled word
  pub name : is_name word ≡ true

-- the net at the place has a name
pub record IsNetAt (nets : List (List ℕ)) (place : ℕ) : Type 0 where
  pub net : List ℕ
  pub at : slice_get nets place ≡ Some net
  pub named : IsNameWord net

-- a length that a word can spell
pub record IsSize (size : ℕ) : Type 0 where
  pub least : 1 ≤ size
  pub most : size ≤ 10 ^ 24

-- names with a name at each place
pub net_at : (nets : List (List ℕ)) (place : ℕ) → AllByRecursion IsNameWord nets → place < length nets → IsNetAt nets place
net_at [] place all within = absurd (omega (arith, within))
net_at (net ∷ nets) zero all within = record { net = net; at = refl; named = all.0 }
net_at (net ∷ nets) (suc place) all within =
    let it = net_at nets place all.1 (omega (arith, within)) in
    record { net = it.net; at = it.at; named = it.named }

-- the terminals of a device are nets with names
pub record HasNets (nets : List (List ℕ)) (device : RawDevice) : Type 0 where
  pub drain : IsNetAt nets device.drain
  pub gate : IsNetAt nets device.gate
  pub source : IsNetAt nets device.source

-- a transistor that an M card describes
pub record IsTransistor (device : RawDevice) : Type 0 where
  pub kind : (device.kind ≡ kind.P) ⊎ (device.kind ≡ kind.N)
  pub mos : card_of device.name ≡ card.Mos
  pub width : IsSize device.width.0
  pub channel : IsSize device.length.0

-- a resistor that an R card describes
pub record IsResistor (device : RawDevice) : Type 0 where
  pub kind : device.kind ≡ kind.D
  pub resistor : card_of device.name ≡ card.Resistor
  pub width : device.width.0 ≡ 1
  pub channel : device.length.0 ≡ 1
  pub gate : device.gate ≡ device.drain

abbrev pub written_sizes : RawDevice → Sizes
written_sizes device = record { width = device.width.0; length = device.length.0 }

-- a device that a card describes
pub record IsCard (table : StrengthTable) (device : RawDevice) : Type 0 where
  pub named : IsNameWord device.name
  pub kept : IsTransistor device ⊎ IsResistor device
  pub strong : device.strength ≡ device_strength table device.kind (written_sizes device)

pub net_name-at : (nets : List (List ℕ)) (place : ℕ) (it : IsNetAt nets place) → net_name nets place ≡ it.net
net_name-at nets place it = ap (λ (found : Option (List ℕ)). unwrap_or found []) it.at

pub net_named : (nets : List (List ℕ)) (place : ℕ) → IsNetAt nets place → IsNameWord (net_name nets place)
net_named nets place it = subst IsNameWord (sym (net_name-at nets place it)) it.named

-- the names with one more are these and maybe one after them
pub record Extends (names longer : List (List ℕ)) : Type 0 where
  pub more : List (List ℕ)
  pub is : longer ≡ names ++ more

pub with_name-extends : (name : List ℕ) (names : List (List ℕ)) → Extends names (with_name name names)
with_name-extends name names = by (has_name name names)
  where
    by : (found : Bool) → Extends names (cond found names (names ++ name ∷ []))
    by true = record { more = []; is = sym (append-nil names) }
    by false = record { more = name ∷ []; is = refl }

pub extends_further : (first second third : List (List ℕ)) → Extends first second → Extends second third → Extends first third
extends_further first second third to_second to_third = record {
  more = to_second.more ++ to_third.more;
  is = to_third.is ∙ ap (λ (names : List (List ℕ)). names ++ to_third.more) to_second.is ∙ append_assoc first to_second.more to_third.more;
}

-- a name is at its place
pub at_its_place : (name : List ℕ) (names : List (List ℕ)) → slice_get (with_name name names) (place_with name names) ≡ Some name
at_its_place name [] = refl
at_its_place name (first ∷ names) = by (bytes_eq name first) refl (at_its_place name names)
  where
    later : (found : Bool) (place : ℕ) → slice_get (cond found names (names ++ name ∷ [])) place ≡ Some name
        → slice_get (cond found (first ∷ names) (first ∷ names ++ name ∷ [])) (1 + place) ≡ Some name
    later true place is = rw one-add is
    later false place is = rw one-add is

    by : (same : Bool) → bytes_eq name first ≡ same → slice_get (with_name name names) (place_with name names) ≡ Some name
        → slice_get (cond (same || has_name name names) (first ∷ names) (first ∷ names ++ name ∷ [])) (cond (not same) (1 + place_with name names) 0) ≡ Some name
    by true is rest = ap (λ (x : List ℕ). Some x) (sym ((bytes_eq-Decides name first).0 is))
    by false is rest = later (has_name name names) (place_with name names) rest

-- the value of W or L
abbrev pub value_word : ℕ → List ℕ
value_word size = decimal size ++ codes "E-18"

abbrev pub card_params : RawDevice → List (List ℕ)
card_params device =
    codes "W" ∷ codes "=" ∷ value_word device.width.0 ∷ codes "L" ∷ codes "=" ∷ value_word device.length.0 ∷ []

-- the words that a written card reads as, after the device's name
abbrev pub card_words : List (List ℕ) → List ℕ → RawDevice → List (List ℕ)
card_words nets bulk device =
    net_name nets device.drain ∷ net_name nets device.gate ∷ net_name nets device.source ∷ bulk ∷ model_of device.kind ∷ card_params device

abbrev pub written_wiring : List (List ℕ) → RawDevice → Wiring
written_wiring nets device = record {
  drain = net_name nets device.drain;
  gate = net_name nets device.gate;
  source = net_name nets device.source;
  kind = device.kind;
  params = card_params device;
}

-- each of these tests is passed
all_six : (a b c d e f : Bool) → a ≡ true → b ≡ true → c ≡ true → d ≡ true → e ≡ true → f ≡ true → (a && (b && (c && (d && (e && (f && true)))))) ≡ true
all_six a b c d e f a_is b_is c_is d_is e_is f_is = λ j. a_is j && (b_is j && (c_is j && (d_is j && (e_is j && (f_is j && true)))))

model_kind : (k : DeviceKind) → (k ≡ kind.P) ⊎ (k ≡ kind.N) → kind_of (model_of k) ≡ Some k
unfolding kind_of
model_kind k (inl is) = subst (λ (k : DeviceKind). kind_of (model_of k) ≡ Some k) (sym is) refl
model_kind k (inr is) = subst (λ (k : DeviceKind). kind_of (model_of k) ≡ Some k) (sym is) refl

model_name : (k : DeviceKind) → (k ≡ kind.P) ⊎ (k ≡ kind.N) → is_name (model_of k) ≡ true
model_name k (inl is) = subst (λ (k : DeviceKind). is_name (model_of k) ≡ true) (sym is) refl
model_name k (inr is) = subst (λ (k : DeviceKind). is_name (model_of k) ≡ true) (sym is) refl

sound_params : (device : RawDevice) → are_sound (card_params device) ≡ true
unfolding are_params count_of
sound_params device = refl

wiring_of-written : (nets : List (List ℕ)) (bulk : List ℕ) (device : RawDevice) → IsNameWord device.name → IsTransistor device → HasNets nets device
    → IsNameWord bulk → wiring_of device.name (card_words nets bulk device) ≡ Some (written_wiring nets device)
unfolding wiring_of
wiring_of-written nets bulk device name it on bulk_is =
    let drain = net_named nets device.drain on.drain in
    let gate = net_named nets device.gate on.gate in
    let source = net_named nets device.source on.source in
    let names : list_all is_name (device.name ∷ net_name nets device.drain ∷ net_name nets device.gate ∷ net_name nets device.source ∷ bulk ∷ model_of device.kind ∷ []) ≡ true =
    all_six _ _ _ _ _ _ name.name drain.name gate.name source.name bulk_is.name (model_name device.kind it.kind) in
    let found : option_and_then (wiring_with (net_name nets device.drain) (net_name nets device.gate) (net_name nets device.source) (card_params device)) (kind_of (model_of device.kind))
    ≡ Some (written_wiring nets device) =
    ap (option_and_then (wiring_with (net_name nets device.drain) (net_name nets device.gate) (net_name nets device.source) (card_params device))) (model_kind device.kind it.kind) in
    (λ j. cond (names j && sound_params device j)
    (option_and_then (wiring_with (net_name nets device.drain) (net_name nets device.gate) (net_name nets device.source) (card_params device)) (kind_of (model_of device.kind))) None)
    ∙ found

sizes_of-written : (device : RawDevice) → IsSize device.width.0 → IsSize device.length.0 → sizes_of (card_params device) ≡ Some (written_sizes device)
unfolding sizes_of value_of
sizes_of-written device width channel =
    ap (λ (found : Option ℕ). option_and_then (λ (width : ℕ). option_and_then (λ (channel : ℕ). Some (record { width = width; length = channel })) (length_of (value_word device.length.0))) found)
    (length_of-written device.width.0 width.least width.most)
    ∙ ap (λ (found : Option ℕ). option_and_then (λ (channel : ℕ). Some (record { width = device.width.0; length = channel })) found)
    (length_of-written device.length.0 channel.least channel.most)

-- an M card that was written is read as its device
pub mos-written : (table : StrengthTable) → (nets : List (List ℕ)) (bulk : List ℕ) (device : RawDevice) (cell : OpenCell) → IsNameWord device.name → IsTransistor device
    → HasNets nets device → IsNameWord bulk → has_device device.name cell.devices ≡ false
    → mos table device.name (card_words nets bulk device) cell ≡ Ok (with_device table device.name (written_wiring nets device) (written_sizes device) cell)
mos-written table nets bulk device cell name it on bulk_is new =
    mos-new table device.name (card_words nets bulk device) cell (with_device table device.name (written_wiring nets device) (written_sizes device) cell)
    (written_wiring nets device) (written_sizes device) (wiring_of-written nets bulk device name it on bulk_is) (sizes_of-written device it.width it.channel) new refl

ends_of-written : (nets : List (List ℕ)) (device : RawDevice) → IsNameWord device.name → HasNets nets device
    → ends_of device.name (resistor_words nets device) ≡ Some (resistor_wiring (net_name nets device.drain) (net_name nets device.source))
unfolding ends_of
ends_of-written nets device name on =
    let drain = net_named nets device.drain on.drain in
    let source = net_named nets device.source on.source in
    λ j. cond (name.name j && (drain.name j && (source.name j && true))) (Some (resistor_wiring (net_name nets device.drain) (net_name nets device.source))) None

-- an R card that was written is read as its device
pub resistor-written : (table : StrengthTable) → (nets : List (List ℕ)) (device : RawDevice) (cell : OpenCell) → IsNameWord device.name → IsResistor device
    → HasNets nets device → has_device device.name cell.devices ≡ false
    → resistor table device.name (resistor_words nets device) cell ≡ Ok (with_device table device.name (written_wiring nets device) (written_sizes device) cell)
resistor-written table nets device cell name it on new =
    resistor-new table device.name (resistor_words nets device) cell (resistor_wiring (net_name nets device.drain) (net_name nets device.source))
    (ends_of-written nets device name on) new
    ∙ (λ j. Ok (with_device table device.name
    (record {
      drain = net_name nets device.drain;
      gate = net_name nets (sym it.gate j);
      source = net_name nets device.source;
      kind = sym it.kind j;
      params = [];
    })
    (record { width = sym it.width j; length = sym it.channel j }) cell))

-- what a card that was read says
pub record IsMos (table : StrengthTable) (name : List ℕ) (words : List (List ℕ)) (cell next : OpenCell) : Type 0 where
  pub wiring : Wiring
  pub sizes : Sizes
  pub wired : wiring_of name words ≡ Some wiring
  pub sized : sizes_of wiring.params ≡ Some sizes
  pub new : has_device name cell.devices ≡ false
  pub is : next ≡ with_device table name wiring sizes cell

-- a rule that is kept
pub kept_rule : {A : Type 0} (broken : Bool) (kind : SpiceKind) (next : Result A SpiceKind) (value : A) → unless broken kind next ≡ Ok value → (broken ≡ false) × (next ≡ Ok value)
kept_rule true kind next value is = absurd cc
kept_rule false kind next value is = (refl, is)

pub kept_value : {A : Type 0} (broken : Bool) (kind : SpiceKind) (value next : A) → unless broken kind (Ok value) ≡ Ok next → (broken ≡ false) × (next ≡ value)
kept_value true kind value next is = absurd cc
kept_value false kind value next is = (refl, cc)

pub mos_found : (table : StrengthTable) → (name : List ℕ) (words : List (List ℕ)) (cell next : OpenCell) → mos table name words cell ≡ Ok next → IsMos table name words cell next
unfolding mos
mos_found table name words cell next is = by_wiring (wiring_of name words) refl is
  where
    by_sizes : (wiring : Wiring) → wiring_of name words ≡ Some wiring → (found : Option Sizes) → sizes_of wiring.params ≡ found
        → elim found as (λ _. Result OpenCell SpiceKind) [ None ↦ Err BadLength | Some sizes ↦ unless (has_device name cell.devices) DoubleName (Ok (with_device table name wiring sizes cell)) ] ≡ Ok next
        → IsMos table name words cell next
    by_sizes wiring wired None sized is = absurd cc
    by_sizes wiring wired (Some sizes) sized is =
        let rule = kept_value (has_device name cell.devices) DoubleName (with_device table name wiring sizes cell) next is in
        record { wiring = wiring; sizes = sizes; wired = wired; sized = sized; new = rule.0; is = rule.1 }

    by_wiring : (found : Option Wiring) → wiring_of name words ≡ found
        → elim found as (λ _. Result OpenCell SpiceKind) [ None ↦ Err BadCard | Some wiring ↦ wired table name wiring cell ] ≡ Ok next → IsMos table name words cell next
    by_wiring None wired is = absurd cc
    by_wiring (Some wiring) wired is = by_sizes wiring wired (sizes_of wiring.params) refl is

-- what an R card that was read says
pub record IsEnds (table : StrengthTable) (name : List ℕ) (words : List (List ℕ)) (cell next : OpenCell) : Type 0 where
  pub wiring : Wiring
  pub wired : ends_of name words ≡ Some wiring
  pub new : has_device name cell.devices ≡ false
  pub is : next ≡ with_device table name wiring resistor_sizes cell

pub resistor_found : (table : StrengthTable) → (name : List ℕ) (words : List (List ℕ)) (cell next : OpenCell) → resistor table name words cell ≡ Ok next
    → IsEnds table name words cell next
unfolding resistor
resistor_found table name words cell next is = by_wiring (ends_of name words) refl is
  where
    by_wiring : (found : Option Wiring) → ends_of name words ≡ found
        → elim found as (λ _. Result OpenCell SpiceKind) [ None ↦ Err BadCard | Some wiring ↦ unless (has_device name cell.devices) DoubleName (Ok (with_device table name wiring resistor_sizes cell)) ] ≡ Ok next
        → IsEnds table name words cell next
    by_wiring None wired is = absurd cc
    by_wiring (Some wiring) wired is =
        let rule = kept_value (has_device name cell.devices) DoubleName (with_device table name wiring resistor_sizes cell) next is in
        record { wiring = wiring; wired = wired; new = rule.0; is = rule.1 }

-- what the words of a card say of its wiring
pub record IsWired (name : List ℕ) (wiring : Wiring) : Type 0 where
  pub name_is : is_name name ≡ true
  pub drain : IsNameWord wiring.drain
  pub gate : IsNameWord wiring.gate
  pub source : IsNameWord wiring.source

-- an M card's device is a transistor
pub record IsWiredMos (name : List ℕ) (wiring : Wiring) : Type 0 where
  pub wired : IsWired name wiring
  pub kind : (wiring.kind ≡ kind.P) ⊎ (wiring.kind ≡ kind.N)

-- an R card's device is a resistor
pub record IsWiredEnds (name : List ℕ) (wiring : Wiring) : Type 0 where
  pub wired : IsWired name wiring
  pub kind : wiring.kind ≡ kind.D
  pub gate : wiring.gate ≡ wiring.drain

kind_found : (model : List ℕ) (k : DeviceKind) → kind_of model ≡ Some k → (k ≡ kind.P) ⊎ (k ≡ kind.N)
unfolding kind_of
kind_found [] k is = absurd cc
kind_found (letter ∷ model) k is = by (eqb letter 78) (eqb letter 80) is
  where
    by : (n p : Bool) → cond n (Some kind.N) (cond p (Some kind.P) None) ≡ Some k → (k ≡ kind.P) ⊎ (k ≡ kind.N)
    by true p is = inr cc
    by false true is = inl cc
    by false false is = absurd cc

pub wiring_found : (name : List ℕ) (words : List (List ℕ)) (wiring : Wiring) → wiring_of name words ≡ Some wiring → AllByRecursion IsSpelled words → IsWiredMos name wiring
unfolding wiring_of
wiring_found name [] wiring is all = absurd cc
wiring_found name (a ∷ []) wiring is all = absurd cc
wiring_found name (a ∷ b ∷ []) wiring is all = absurd cc
wiring_found name (a ∷ b ∷ c ∷ []) wiring is all = absurd cc
wiring_found name (a ∷ b ∷ c ∷ d ∷ []) wiring is all = absurd cc
wiring_found name (drain ∷ gate ∷ source ∷ bulk ∷ model ∷ params) wiring is all =
    by (list_all is_name (name ∷ drain ∷ gate ∷ source ∷ bulk ∷ model ∷ [])) (are_sound params) refl is
  where
    by_kind : (found : Option DeviceKind) → kind_of model ≡ found → option_and_then (wiring_with drain gate source params) found ≡ Some wiring
        → list_all is_name (name ∷ drain ∷ gate ∷ source ∷ bulk ∷ model ∷ []) ≡ true → IsWiredMos name wiring
    by_kind None found is names = absurd cc
    by_kind (Some k) found is names =
        let same : wiring ≡ record { drain = drain; gate = gate; source = source; kind = k; params = params } = cc in
        let after_name = right_true (is_name name) _ names in
        let after_drain = right_true (is_name drain) _ after_name in
        let after_gate = right_true (is_name gate) _ after_drain in
        subst (IsWiredMos name) (sym same) (record {
          wired = record {
            name_is = left_true (is_name name) _ names;
            drain = record { spelled = all.0; name = left_true (is_name drain) _ after_name };
            gate = record { spelled = all.1.0; name = left_true (is_name gate) _ after_drain };
            source = record { spelled = all.1.1.0; name = left_true (is_name source) _ after_gate };
          };
          kind = kind_found model k found;
        })

    by : (names sound : Bool) → list_all is_name (name ∷ drain ∷ gate ∷ source ∷ bulk ∷ model ∷ []) ≡ names
        → cond (names && sound) (option_and_then (wiring_with drain gate source params) (kind_of model)) None ≡ Some wiring → IsWiredMos name wiring
    by true true names is = by_kind (kind_of model) refl is names
    by true false names is = absurd cc
    by false sound names is = absurd cc

pub ends_found : (name : List ℕ) (words : List (List ℕ)) (wiring : Wiring) → ends_of name words ≡ Some wiring → AllByRecursion IsSpelled words → IsWiredEnds name wiring
unfolding ends_of
ends_found name [] wiring is all = absurd cc
ends_found name (a ∷ []) wiring is all = absurd cc
ends_found name (a ∷ b ∷ []) wiring is all = absurd cc
ends_found name (drain ∷ source ∷ word ∷ more) wiring is all = by (list_all is_name (name ∷ drain ∷ source ∷ [])) refl is
  where
    by : (names : Bool) → list_all is_name (name ∷ drain ∷ source ∷ []) ≡ names
        → cond names (Some (resistor_wiring drain source)) None ≡ Some wiring → IsWiredEnds name wiring
    by true names is =
        let same : wiring ≡ resistor_wiring drain source = cc in
        let after_name = right_true (is_name name) _ names in
        let after_drain = right_true (is_name drain) _ after_name in
        let drain_is : IsNameWord drain = record { spelled = all.0; name = left_true (is_name drain) _ after_name } in
        subst (IsWiredEnds name) (sym same) (record {
          wired = record {
            name_is = left_true (is_name name) _ names;
            drain = drain_is;
            gate = drain_is;
            source = record { spelled = all.1.0; name = left_true (is_name source) _ after_drain };
          };
          kind = refl;
          gate = refl;
        })
    by false names is = absurd cc

size_found : (value : Option (List ℕ)) (size : ℕ) → option_and_then length_of value ≡ Some size → IsSize size
size_found None size is = absurd cc
size_found (Some word) size is =
    let it = length_found word size is in
    record { least = it.least; most = it.most }

pub sizes_found : (params : List (List ℕ)) (sizes : Sizes) → sizes_of params ≡ Some sizes → IsSize sizes.width × IsSize sizes.length
unfolding sizes_of
sizes_found params sizes is = by (length_at (codes "W") params) (length_at (codes "L") params) refl refl is
  where
    by : (width channel : Option ℕ) → length_at (codes "W") params ≡ width → length_at (codes "L") params ≡ channel
        → option_and_then (λ (w : ℕ). option_and_then (λ (l : ℕ). Some (record { width = w; length = l })) channel) width ≡ Some sizes
        → IsSize sizes.width × IsSize sizes.length
    by None channel width_is channel_is is = absurd cc
    by (Some w) None width_is channel_is is = absurd cc
    by (Some w) (Some l) width_is channel_is is =
        let same : sizes ≡ record { width = w; length = l } = cc in
        subst (λ (s : Sizes). IsSize s.width × IsSize s.length) (sym same)
        (size_found (value_of (codes "W") params) w width_is, size_found (value_of (codes "L") params) l channel_is)
