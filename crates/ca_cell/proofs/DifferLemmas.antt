-- The defects of a cell with plain names have names that differ.
use Rattle.std.proofs.Common.{◌≡◌, ◌≢◌, ℕ, zero, suc, ◌+◌, ◌<◌, ◌==◌, List, Bool, true, false, [], ◌∷◌, ◌++◌}
use Rattle.std.proofs.Common.{length, map, refl, sym, ◌∙◌, ap, subst, arith, add-zero, zero-add}
use Rattle.std.specs.Prelude.{cond, Some, slice_get, option_map, unwrap_or}
use Rattle.std.specs.List.{All, AllByRecursion}
use Rattle.std.proofs.lemmas.Bool.Decides.{Decides-eqb}
use Rattle.std.proofs.lemmas.List.{length-map}
use Rattle.std.proofs.lemmas.List.Elements.{recursion_from_All}
use Rattle.ca_lex.specs.Words.{upper_case}
use Rattle.ca_cell.specs.declared.raw.RawPin.{RawPin}
use Rattle.ca_cell.specs.declared.raw.RawDevice.{RawDevice}
use Rattle.ca_cell.specs.declared.raw.RawCell.{RawCell}
use Rattle.ca_cell.specs.Raw.{is_input, role_count, node_of, device_of, circuit_of}
use Rattle.ca_cell.specs.Rules.{node_count, KeepsRules}
use Rattle.ca_cell.specs.PlainNames.{IsPlain, device_names, HasPlainNames}
use Rattle.ca_cell.proofs.CircuitLemmas.{length-nodes_of}
use Rattle.ca_cell.proofs.NodeLemmas.{has_net}
use Rattle.ca_cell.specs.declared.defect.Defect.{Defect}
use Rattle.ca_cell.specs.declared.defect.Defect.TheVariants.{OpenDrain, OpenSource, OpenGate, OpenPin}
use Rattle.ca_cell.specs.declared.defect.Defect.TheVariants.{Short}
use Rattle.ca_cell.specs.List.{IsDefectOf}
use Rattle.ca_cell.specs.Name.{net_from, node_name, device_name, drain_letter, source_letter}
use Rattle.ca_cell.specs.Name.{is_transistor, name_of}
use Rattle.ca_cell.specs.Defect.{gated_at}
use Rattle.ca_cell.proofs.CircuitWithLemmas.{short_ordered}
use Rattle.ca_cell.proofs.MemberLemmas.{gated_within}
use Rattle.ca_cell.proofs.PlainLemmas.{IsPlainText, upper_plain, one_short, open_or_short, one_open}

-- the net by which a node is called
record HasCalled (pins : List RawPin) (n place : ℕ) (nets : List (List ℕ)) : Type 0 where
  at : ℕ
  named : slice_get nets at ≡ Some (net_from pins n place nets)
  is_node : node_of pins (place + at) ≡ n

-- where some net has the node, one is the first
called_from : (pins : List RawPin) (n place : ℕ) (nets : List (List ℕ)) (k : ℕ) → k < length nets → node_of pins (place + k) ≡ n
    → HasCalled pins n place nets
called_from pins n place [] k within is = absurd (omega (arith, within))
called_from pins n place (net ∷ more) k within is = by (node_of pins place == n) refl
    (λ j below is_node. called_from pins n (place + 1) more j below is_node)
  where
    further : (k : ℕ) → k < length (net ∷ more) → node_of pins (place + k) ≡ n → (node_of pins place == n) ≡ false
        → (j : ℕ) × (j < length more) × (node_of pins (place + 1 + j) ≡ n)
    further zero within is fails =
        let passes : (node_of pins place == n) ≡ true = (Decides-eqb (node_of pins place) n).1 (ap (node_of pins) (sym (add-zero place)) ∙ is) in
        cc
    further (suc j) within is fails =
        let next : place + 1 + j ≡ place + suc j = omega arith in
        (j, omega (arith, within), ap (node_of pins) next ∙ is)

    by : (b : Bool) → (node_of pins place == n) ≡ b
        → ((j : ℕ) → j < length more → node_of pins (place + 1 + j) ≡ n → HasCalled pins n (place + 1) more)
        → HasCalled pins n place (net ∷ more)
    by true passes later = record {
      at = 0;
      named = ap (λ (b : Bool). Some (cond b net (net_from pins n (place + 1) more))) (sym passes);
      is_node = ap (node_of pins) (add-zero place) ∙ (Decides-eqb (node_of pins place) n).0 passes;
    }
    by false fails later =
        let found = further k within is fails in
        let rest = later found.0 found.1 found.2 in
        let next : place + suc rest.at ≡ place + 1 + rest.at = omega arith in
        record {
          at = suc rest.at;
          named = rest.named ∙ ap (λ (b : Bool). Some (cond b net (net_from pins n (place + 1) more))) (sym fails);
          is_node = ap (node_of pins) next ∙ rest.is_node;
        }

-- the name of the device at a place
named_at : (devices : List RawDevice) (place : ℕ) → place < length devices
    → slice_get (map (λ (device : RawDevice). device.name) devices) place
    ≡ Some (unwrap_or (option_map (λ (device : RawDevice). device.name) (slice_get devices place)) [])
named_at [] place within = absurd (omega (arith, within))
named_at (device ∷ devices) zero within = refl
named_at (device ∷ devices) (suc place) within = named_at devices place (omega (arith, within))

-- what holds of all holds of the one at a place
all_at : (P : List ℕ → Type 0) (names : List (List ℕ)) (place : ℕ) (name : List ℕ) → All P names → slice_get names place ≡ Some name → P name
all_at P names place name all there = by names place (recursion_from_All P names all) there
  where
    by : (names : List (List ℕ)) (place : ℕ) → AllByRecursion P names → slice_get names place ≡ Some name → P name
    by [] place all there = absurd cc
    by (first ∷ names) zero all there =
        let same : first ≡ name = cc in subst P same all.0
    by (first ∷ names) (suc place) all there = by names place all.1 there

module _ (raw : RawCell) (keeps : KeepsRules raw) (plain : HasPlainNames raw) where
  called : (n : ℕ) → n < node_count raw → HasCalled raw.pins n 0 raw.nets
  called n within =
      let net = has_net raw plain.pins keeps n within in
      called_from raw.pins n 0 raw.nets net.place net.within (ap (node_of raw.pins) (zero-add net.place) ∙ net.is_node)

  node_plain : (n : ℕ) → n < node_count raw → IsPlainText (upper_case (node_name raw n))
  node_plain n within =
      let it = called n within in
      upper_plain (node_name raw n) (all_at IsPlain raw.nets it.at (node_name raw n) plain.nets it.named)

  -- nodes of one name are one
  one_node : (n m : ℕ) → n < node_count raw → m < node_count raw → upper_case (node_name raw n) ≡ upper_case (node_name raw m) → n ≡ m
  one_node n m within below same =
      let here = called n within in
      let there = called m below in
      let place = plain.nets_differ here.at there.at (node_name raw n) (node_name raw m) here.named there.named same in
      sym here.is_node ∙ ap (λ (k : ℕ). node_of raw.pins (0 + k)) place ∙ there.is_node

  device_plain : (place : ℕ) → place < length raw.devices → IsPlainText (upper_case (device_name raw place))
  device_plain place within =
      upper_plain (device_name raw place) (all_at IsPlain (device_names raw) place (device_name raw place) plain.devices (named_at raw.devices place within))

  -- and so are devices
  one_device : (place other : ℕ) → place < length raw.devices → other < length raw.devices
      → upper_case (device_name raw place) ≡ upper_case (device_name raw other) → place ≡ other
  one_device place other within below same =
      plain.devices_differ place other (device_name raw place) (device_name raw other) (named_at raw.devices place within)
      (named_at raw.devices other below) same

  few : (place : ℕ) → place < length (circuit_of raw).devices → place < length raw.devices
  few place within = subst (λ (count : ℕ). place < count) (length-map raw.devices (device_of raw.pins)) within

  pin_node : (n : ℕ) → n < 2 + role_count is_input raw.pins → n < node_count raw
  pin_node n within = omega (arith, within)

  node : (n : ℕ) → n < length (circuit_of raw).nodes → n < node_count raw
  node n within = subst (λ (count : ℕ). n < count) (length-nodes_of raw) within

  -- no open has the name of a short
  device_or_short : (place letter : ℕ) (low high : ℕ) → letter ≢ 61 → place < length (circuit_of raw).devices → low < node_count raw
      → upper_case (device_name raw place) ++ 40 ∷ letter ∷ 41 ∷ [] ≡ upper_case (node_name raw low) ++ 61 ∷ upper_case (node_name raw high) → ⊥
  device_or_short place letter low high other within below same =
      open_or_short (upper_case (device_name raw place)) (upper_case (node_name raw low)) (upper_case (node_name raw high)) letter other
      (device_plain place (few place within)) (node_plain low below) same

  pin_or_short : (pin letter : ℕ) (low high : ℕ) → letter ≢ 61 → pin < 2 + role_count is_input raw.pins → low < node_count raw
      → upper_case (node_name raw pin) ++ 40 ∷ letter ∷ 41 ∷ [] ≡ upper_case (node_name raw low) ++ 61 ∷ upper_case (node_name raw high) → ⊥
  pin_or_short pin letter low high other within below same =
      open_or_short (upper_case (node_name raw pin)) (upper_case (node_name raw low)) (upper_case (node_name raw high)) letter other
      (node_plain pin (pin_node pin within)) (node_plain low below) same

  low_node : (low high : ℕ) → IsDefectOf raw (Short (record { 0 = low }) (record { 0 = high })) → low < node_count raw
  low_node low high is =
      let ordered = short_ordered (role_count is_input raw.pins) low high is.1 in
      let within = node high is.0 in
      omega (arith, ordered, within)

  apart : (a b : ℕ) → (a == b) ≡ false → a ≢ b
  apart a b fails same =
      let passes : (a == b) ≡ true = (Decides-eqb a b).1 same in
      cc

  marks : (name other : List ℕ) (letter mark : ℕ) → (letter == mark) ≡ false → name ++ 40 ∷ letter ∷ 41 ∷ [] ≡ other ++ 40 ∷ mark ∷ 41 ∷ [] → ⊥
  marks name other letter mark differ same = apart letter mark differ (one_open name other letter mark same).1

  -- the names in upper case
  abbrev device_text : ℕ → List ℕ
  device_text place = upper_case (device_name raw place)

  abbrev node_text : ℕ → List ℕ
  node_text n = upper_case (node_name raw n)

  -- whether the device at a place has a gate, and the letters of its opens
  abbrev at : ℕ → Bool
  at place = is_transistor raw place

  abbrev drain : ℕ → ℕ
  drain place = drain_letter (at place)

  abbrev source : ℕ → ℕ
  source place = source_letter (at place)

  -- letters of different terminals differ
  not_source : (b c : Bool) → (drain_letter b == source_letter c) ≡ false
  not_source true true = refl
  not_source true false = refl
  not_source false true = refl
  not_source false false = refl

  not_drain : (b c : Bool) → (source_letter b == drain_letter c) ≡ false
  not_drain true true = refl
  not_drain true false = refl
  not_drain false true = refl
  not_drain false false = refl

  drain_is_no : (b : Bool) → ((drain_letter b == 71) ≡ false) × ((71 == drain_letter b) ≡ false)
  drain_is_no true = (refl, refl)
  drain_is_no false = (refl, refl)

  source_is_no : (b : Bool) → ((source_letter b == 71) ≡ false) × ((71 == source_letter b) ≡ false)
  source_is_no true = (refl, refl)
  source_is_no false = (refl, refl)

  drain_is_no_pin : (b : Bool) → ((drain_letter b == 80) ≡ false) × ((80 == drain_letter b) ≡ false)
  drain_is_no_pin true = (refl, refl)
  drain_is_no_pin false = (refl, refl)

  source_is_no_pin : (b : Bool) → ((source_letter b == 80) ≡ false) × ((80 == source_letter b) ≡ false)
  source_is_no_pin true = (refl, refl)
  source_is_no_pin false = (refl, refl)

  no_short : (b : Bool) → ((drain_letter b == 61) ≡ false) × ((source_letter b == 61) ≡ false)
  no_short true = (refl, refl)
  no_short false = (refl, refl)

  gated_here : (place : ℕ) → gated_at (circuit_of raw).devices place ≡ true → place < length (circuit_of raw).devices
  gated_here place is = gated_within (circuit_of raw).devices place is

  pub one_defect : (defect other : Defect) → IsDefectOf raw defect → IsDefectOf raw other → name_of raw defect ≡ name_of raw other → defect ≡ other
  one_defect (OpenDrain d) (OpenDrain e) is is_too same =
      let place = one_device d.0 e.0 (few d.0 is) (few e.0 is_too) (one_open (device_text d.0) (device_text e.0) (drain d.0) (drain e.0) same).0 in
      λ j. OpenDrain (record { 0 = place j })
  one_defect (OpenDrain d) (OpenSource e) is is_too same = absurd (marks (device_text d.0) (device_text e.0) (drain d.0) (source e.0) (not_source (at d.0) (at e.0)) same)
  one_defect (OpenDrain d) (OpenGate e) is is_too same = absurd (marks (device_text d.0) (device_text e.0) (drain d.0) 71 (drain_is_no (at d.0)).0 same)
  one_defect (OpenDrain d) (OpenPin pin) is is_too same = absurd (marks (device_text d.0) (node_text pin.0) (drain d.0) 80 (drain_is_no_pin (at d.0)).0 same)
  one_defect (OpenDrain d) (Short low high) is is_too same =
      absurd (device_or_short d.0 (drain d.0) low.0 high.0 (apart (drain d.0) 61 (no_short (at d.0)).0) is (low_node low.0 high.0 is_too) same)
  one_defect (OpenSource d) (OpenDrain e) is is_too same = absurd (marks (device_text d.0) (device_text e.0) (source d.0) (drain e.0) (not_drain (at d.0) (at e.0)) same)
  one_defect (OpenSource d) (OpenSource e) is is_too same =
      let place = one_device d.0 e.0 (few d.0 is) (few e.0 is_too) (one_open (device_text d.0) (device_text e.0) (source d.0) (source e.0) same).0 in
      λ j. OpenSource (record { 0 = place j })
  one_defect (OpenSource d) (OpenGate e) is is_too same = absurd (marks (device_text d.0) (device_text e.0) (source d.0) 71 (source_is_no (at d.0)).0 same)
  one_defect (OpenSource d) (OpenPin pin) is is_too same = absurd (marks (device_text d.0) (node_text pin.0) (source d.0) 80 (source_is_no_pin (at d.0)).0 same)
  one_defect (OpenSource d) (Short low high) is is_too same =
      absurd (device_or_short d.0 (source d.0) low.0 high.0 (apart (source d.0) 61 (no_short (at d.0)).1) is (low_node low.0 high.0 is_too) same)
  one_defect (OpenGate d) (OpenDrain e) is is_too same = absurd (marks (device_text d.0) (device_text e.0) 71 (drain e.0) (drain_is_no (at e.0)).1 same)
  one_defect (OpenGate d) (OpenSource e) is is_too same = absurd (marks (device_text d.0) (device_text e.0) 71 (source e.0) (source_is_no (at e.0)).1 same)
  one_defect (OpenGate d) (OpenGate e) is is_too same =
      let place = one_device d.0 e.0 (few d.0 (gated_here d.0 is)) (few e.0 (gated_here e.0 is_too)) (one_open (device_text d.0) (device_text e.0) 71 71 same).0 in
      λ j. OpenGate (record { 0 = place j })
  one_defect (OpenGate d) (OpenPin pin) is is_too same = absurd (marks (device_text d.0) (node_text pin.0) 71 80 refl same)
  one_defect (OpenGate d) (Short low high) is is_too same =
      absurd (device_or_short d.0 71 low.0 high.0 (apart 71 61 refl) (gated_here d.0 is) (low_node low.0 high.0 is_too) same)
  one_defect (OpenPin pin) (OpenDrain e) is is_too same = absurd (marks (node_text pin.0) (device_text e.0) 80 (drain e.0) (drain_is_no_pin (at e.0)).1 same)
  one_defect (OpenPin pin) (OpenSource e) is is_too same = absurd (marks (node_text pin.0) (device_text e.0) 80 (source e.0) (source_is_no_pin (at e.0)).1 same)
  one_defect (OpenPin pin) (OpenGate e) is is_too same = absurd (marks (node_text pin.0) (device_text e.0) 80 71 refl same)
  one_defect (OpenPin pin) (OpenPin other) is is_too same =
      let node = one_node pin.0 other.0 (pin_node pin.0 is.1) (pin_node other.0 is_too.1) (one_open (node_text pin.0) (node_text other.0) 80 80 same).0 in
      λ j. OpenPin (record { 0 = node j })
  one_defect (OpenPin pin) (Short low high) is is_too same =
      absurd (pin_or_short pin.0 80 low.0 high.0 (apart 80 61 refl) is.1 (low_node low.0 high.0 is_too) same)
  one_defect (Short low high) (OpenDrain e) is is_too same =
      absurd (device_or_short e.0 (drain e.0) low.0 high.0 (apart (drain e.0) 61 (no_short (at e.0)).0) is_too (low_node low.0 high.0 is) (sym same))
  one_defect (Short low high) (OpenSource e) is is_too same =
      absurd (device_or_short e.0 (source e.0) low.0 high.0 (apart (source e.0) 61 (no_short (at e.0)).1) is_too (low_node low.0 high.0 is) (sym same))
  one_defect (Short low high) (OpenGate e) is is_too same =
      absurd (device_or_short e.0 71 low.0 high.0 (apart 71 61 refl) (gated_here e.0 is_too) (low_node low.0 high.0 is) (sym same))
  one_defect (Short low high) (OpenPin pin) is is_too same =
      absurd (pin_or_short pin.0 80 low.0 high.0 (apart 80 61 refl) is_too.1 (low_node low.0 high.0 is) (sym same))
  one_defect (Short low high) (Short other more) is is_too same =
      let below = low_node low.0 high.0 is in
      let below_too = low_node other.0 more.0 is_too in
      let both = one_short (node_text low.0) (node_text high.0) (node_text other.0) (node_text more.0) (node_plain low.0 below) (node_plain other.0 below_too) same in
      let lows = one_node low.0 other.0 below below_too both.0 in
      let highs = one_node high.0 more.0 (node high.0 is.0) (node more.0 is_too.0) both.1 in
      λ j. Short (record { 0 = lows j }) (record { 0 = highs j })
