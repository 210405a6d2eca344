-- The nets of a netlist on its wires are those of its wiring.
use Rattle.std.proofs.Common.{◌≡◌, ℕ, zero, suc, ◌+◌, ◌<◌, ◌^◌, List, [], ◌∷◌, ◌++◌, Bool, true, false}
use Rattle.std.proofs.Common.{length, map, inl, inr, refl, sym, ◌∙◌, ap, subst, arith, get_or, true≢false}
use Rattle.std.specs.Prelude.{◌⊎◌, ◌↔◌, Option, Some, None, IsNone, IsTrue, slice_get, option_to_list}
use Rattle.std.specs.Prelude.{if◌then◌else◌}
use Rattle.std.specs.List.{Contains, All, flat_map}
use Rattle.std.proofs.lemmas.List.{length-map}
use Rattle.std.proofs.lemmas.List.Folds.{flat_map-map}
use Rattle.std.proofs.lemmas.List.Elements.{All-map, Contains-get_or, Contains-append_left}
use Rattle.std.proofs.lemmas.List.Elements.{Contains-append_right, Contains-append_cases}
use Rattle.std.proofs.lemmas.Option.{none-some, slice_get_within, slice_get-get_or, get_or_from_slice_get}
use Rattle.ca_cell.specs.declared.raw.RawCell.{RawCell}
use Rattle.ca_cell.specs.Library.{Named}
use Rattle.ca_linked.specs.declared.parts.Body.{Body}
use Rattle.ca_linked.specs.declared.parts.Body.TheVariants.{Gate, Scan}
use Rattle.ca_linked.specs.declared.parts.Part.{Part}
use Rattle.ca_linked.specs.declared.parts.PortBit.{PortBit}
use Rattle.ca_linked.specs.Linked.{LinkedChip, constant_net, input_nets, output_nets, IsBody}
use Rattle.ca_linked.specs.Drivers.{IsDrafted}
use Rattle.ca_wiring.specs.declared.scan_row.ScanRow.{ScanRow}
use Rattle.ca_wiring.specs.declared.joined.Join.{Join}
use Rattle.ca_wiring.specs.Joined.{AreJoined, Same, IsEarliest}
use Rattle.ca_wiring.specs.Wiring.{Meaning, Unknown, Broken, Library, ScanCell, meaning_of, WiredPart}
use Rattle.ca_wiring.specs.Wiring.{HeaderBit, Wiring, out_bits}
use Rattle.ca_wiring.specs.Nets.{Driving, ConstantBit, OutputPin, DrivesWire, Drives, IsNamed, IsLoaded, IsNet}
use Rattle.ca_wiring.specs.Nets.{AreNets, IsNetOf, AreNetsOf, constant_wire}
use Rattle.ca_wiring.specs.Nets as nets
use Rattle.ca_wiring.specs.Linking.{HasMeaning, IsPartOf, IsPortOf, IsLinkOf}
use Rattle.ca_wiring.specs.Numbers.{WireMarks, NetNumbers, earliest_of, IsUsed}
use Rattle.ca_wiring.specs.code.Numbers.{ReportsUsed}
use Rattle.ca_linked.proofs.OrderLemmas.{place_of, contained_at}
use Rattle.ca_linked.proofs.DriverLemmas.{some_inj, to_some}
use Rattle.ca_linked.proofs.FeedingLemmas.{item_of}
use Rattle.ca_wiring.proofs.ForestLemmas.{joined_trans, joined_sym}
use Rattle.ca_wiring.proofs.NetLemmas.{nets_are, net_is}
use Rattle.ca_wiring.proofs.SameLemmas.{joined_net, net_joined}
use Rattle.ca_draft.specs.code.OnWires.{cells_of, pins_of, wired_of, header_of, IsKept, number_of, numbered}
use Rattle.ca_draft.specs.code.OnWires.{numbered_option, numbered_part, numbered_port, constant_number}
use Rattle.ca_draft.specs.OnWires.{constant_wires}
use Rattle.ca_draft.specs.code.OnWires.{touched_of, wiring_on, chip_on, IsNumbering}
use Rattle.ca_draft.proofs.ConstantLemmas.{in_part, in_all, value_of, value_at}

-- an instance's pins, once their wires are numbered
pub inputs_numbered : (numbers : List ℕ) (body : Body) → input_nets (numbered numbers body) ≡ map (number_of numbers) (input_nets body)
inputs_numbered numbers (Gate cell inputs outputs) = refl
inputs_numbered numbers (Scan pins) = refl

pub outputs_numbered : (numbers : List ℕ) (body : Body) → output_nets (numbered numbers body) ≡ map (number_of numbers) (output_nets body)
outputs_numbered numbers (Gate cell inputs outputs) = refl
outputs_numbered numbers (Scan pins) = by pins.qn
  where
    by : (qn : Option ℕ) → number_of numbers pins.q ∷ (option_to_list (numbered_option numbers qn) ++ number_of numbers pins.so ∷ [])
        ≡ map (number_of numbers) (pins.q ∷ (option_to_list qn ++ pins.so ∷ []))
    by None = refl
    by (Some wire) = refl

meaning_numbered : (cells : List RawCell) (numbers : List ℕ) (meaning : Meaning) (body : Body) → HasMeaning cells meaning body
    → HasMeaning cells meaning (numbered numbers body)
meaning_numbered cells numbers Unknown body has = has
meaning_numbered cells numbers (Broken rule) body has = has
meaning_numbered cells numbers (Library raw) (Gate cell inputs outputs) has = has
meaning_numbered cells numbers (Library raw) (Scan pins) has = has
meaning_numbered cells numbers (ScanCell row) (Gate cell inputs outputs) has = has
meaning_numbered cells numbers (ScanCell row) (Scan pins) has = by pins.qn has
  where
    by : (qn : Option ℕ) → (IsNone qn ↔ (row.qn ≡ [])) → IsNone (numbered_option numbers qn) ↔ (row.qn ≡ [])
    by None both = both
    by (Some wire) both = both

body_numbered : (cells : List RawCell) (numbers : List ℕ) (body : Body) → IsBody cells body → IsBody cells (numbered numbers body)
body_numbered cells numbers (Gate cell inputs outputs) is = record {
  is_raw = is.is_raw;
  keeps = is.keeps;
  net_per_input = length-map inputs (number_of numbers) ∙ is.net_per_input;
  net_per_output = length-map outputs (number_of numbers) ∙ is.net_per_output;
}
body_numbered cells numbers (Scan pins) is = tt

-- what a list has, is at a place
at_place : (xs : List ℕ) (n : ℕ) → Contains xs n → (k : ℕ) × (slice_get xs k ≡ Some n)
at_place xs n has = (has.0, place_of xs n has)

module _ (library : List Named) (scan : List ScanRow) (parts : List Part) (ports : List PortBit) (bits : ℕ) (joins : List Join) where
  -- the wiring that has these instances and port bits
  abbrev pub wiring : Wiring
  wiring = wiring_on library scan parts ports bits joins

  pub named_pins : flat_map (λ (part : WiredPart). part.inputs ++ part.outputs) wiring.parts ≡ flat_map (λ (part : Part). pins_of part.body) parts
  named_pins = flat_map-map (λ (part : WiredPart). part.inputs ++ part.outputs) (wired_of library scan) parts

  module _ (has_zero has_one : Bool) (zero_is : IsTrue has_zero ↔ IsNamed wiring bits) (one_is : IsTrue has_one ↔ IsNamed wiring (bits + 1)) where
    -- the wires that are touched
    abbrev touched : List ℕ
    touched = touched_of parts ports bits has_zero has_one

    -- those of pins, of port bits, and of constants
    abbrev of_pins : List ℕ
    of_pins = flat_map (λ (part : Part). pins_of part.body) parts

    abbrev of_ports : List ℕ
    of_ports = map (λ (port : PortBit). port.net) ports

    abbrev of_constants : List ℕ
    of_constants = constant_wires bits has_zero ++ constant_wires (bits + 1) has_one

    -- it drives or loads the wire
    abbrev Touches : ℕ → Type 0
    Touches m = ((driving : Driving) × DrivesWire wiring driving m) ⊎ Contains (flat_map (λ (part : WiredPart). part.inputs) wiring.parts ++ out_bits wiring) m

    from_pin : (m : ℕ) → Contains of_pins m → Touches m
    from_pin m has =
        let found = in_part (λ (part : Part). pins_of part.body) parts m has in
        let at = value_at (wired_of library scan) parts found.place found.part found.at in
        elim (Contains-append_cases (input_nets found.part.body) (output_nets found.part.body) m found.has) [
          | inl read ↦ inr (Contains-append_left (flat_map (λ (part : WiredPart). part.inputs) wiring.parts) (out_bits wiring) m
              (in_all (λ (part : WiredPart). part.inputs) wiring.parts found.place (wired_of library scan found.part) m at read))
          | inr driven ↦ let pin = at_place (output_nets found.part.body) m driven in
              inl (OutputPin found.place pin.0, (wired_of library scan found.part, at, pin.1))
        ]

    from_port : (m : ℕ) → Contains of_ports m → Touches m
    from_port m has =
        let here = at_place of_ports m has in
        let found = value_of (λ (port : PortBit). port.net) ports here.0 m here.1 in
        by here.0 found.item found.at found.is found.item.is_input refl
      where
        by : (p : ℕ) (port : PortBit) → slice_get ports p ≡ Some port → port.net ≡ m → (input : Bool) → port.is_input ≡ input → Touches m
        by p port at is true e = inl (
          nets.PortBit p,
          to_some (λ (bit : HeaderBit). IsTrue bit.is_input × (bit.wire ≡ m)) (slice_get wiring.header p) (header_of port) (value_at header_of ports p port at)
              (e, is),
        )
        by p port at is false e = inr (Contains-append_right (flat_map (λ (part : WiredPart). part.inputs) wiring.parts) (out_bits wiring) m
            (in_all (λ (bit : HeaderBit). if bit.is_input then [] else bit.wire ∷ []) wiring.header p (header_of port) m (value_at header_of ports p port at)
            (subst (λ (b : Bool). Contains (if b then [] else port.net ∷ []) m) (sym e) (0, omega arith, is))))

    from_constant : (value : Bool) (is_named : Bool) (m : ℕ) → (IsTrue is_named → IsNamed wiring (constant_wire wiring value))
        → Contains (constant_wires (constant_wire wiring value) is_named) m → Touches m
    from_constant value false m named has = absurd (let lt = has.1 in omega (arith, lt))
    from_constant value true m named (zero, lt, e) = inl (ConstantBit value, (e, subst (IsNamed wiring) e (named refl)))
    from_constant value true m named (suc k, lt, e) = absurd (omega (arith, lt))

    touched_drives : (m : ℕ) → Contains touched m → Touches m
    touched_drives m has = elim (Contains-append_cases of_pins (of_ports ++ of_constants) m has) [
      | inl pin ↦ from_pin m pin
      | inr rest ↦ elim (Contains-append_cases of_ports of_constants m rest) [
        | inl port ↦ from_port m port
        | inr constant ↦ elim (Contains-append_cases (constant_wires bits has_zero) (constant_wires (bits + 1) has_one) m constant) [
          | inl is ↦ from_constant false has_zero m zero_is.0 is
          | inr is ↦ from_constant true has_one m one_is.0 is
        ]
      ]
    ]

    in_pins : (m : ℕ) → Contains of_pins m → Contains touched m
    in_pins m has = Contains-append_left of_pins (of_ports ++ of_constants) m has

    in_ports : (p : ℕ) (port : PortBit) (m : ℕ) → slice_get ports p ≡ Some port → port.net ≡ m → Contains touched m
    in_ports p port m at is =
        Contains-append_right of_pins (of_ports ++ of_constants) m (Contains-append_left of_ports of_constants m
        (contained_at of_ports p m (value_at (λ (port : PortBit). port.net) ports p port at ∙ ap Some is)))

    in_constants : (m : ℕ) → Contains of_constants m → Contains touched m
    in_constants m has = Contains-append_right of_pins (of_ports ++ of_constants) m (Contains-append_right of_ports of_constants m has)

    of_named : (wire : ℕ) (is_named : Bool) (m : ℕ) → IsTrue is_named → wire ≡ m → Contains (constant_wires wire is_named) m
    of_named wire true m is e = (0, omega arith, e)
    of_named wire false m is e = absurd (true≢false (sym is))

    drives_touched : (driving : Driving) (m : ℕ) → DrivesWire wiring driving m → Contains touched m
    drives_touched (nets.PortBit p) m drives =
        let found = item_of wiring.header p (λ (bit : HeaderBit). IsTrue bit.is_input × (bit.wire ≡ m)) drives in
        let port = value_of header_of ports p found.item found.at in
        in_ports p port.item m port.at (ap (λ (bit : HeaderBit). bit.wire) port.is ∙ found.has.1)
    drives_touched (ConstantBit false) m drives =
        in_constants m (Contains-append_left (constant_wires bits has_zero) (constant_wires (bits + 1) has_one) m
        (of_named bits has_zero m (zero_is.1 (subst (IsNamed wiring) (sym drives.0) drives.1)) drives.0))
    drives_touched (ConstantBit true) m drives =
        in_constants m (Contains-append_right (constant_wires bits has_zero) (constant_wires (bits + 1) has_one) m
        (of_named (bits + 1) has_one m (one_is.1 (subst (IsNamed wiring) (sym drives.0) drives.1)) drives.0))
    drives_touched (OutputPin u pin) m drives =
        let part = value_of (wired_of library scan) parts u drives.0 drives.1 in
        let has : Contains (output_nets part.item.body) m =
        contained_at (output_nets part.item.body) pin m (ap (λ (p : WiredPart). slice_get p.outputs pin) part.is ∙ drives.2) in
        in_pins m (in_all (λ (p : Part). pins_of p.body) parts u part.item m part.at (Contains-append_right (input_nets part.item.body) (output_nets part.item.body) m has))

    load_touched : (m : ℕ) → Contains (flat_map (λ (part : WiredPart). part.inputs) wiring.parts ++ out_bits wiring) m → Contains touched m
    load_touched m has = elim (Contains-append_cases (flat_map (λ (part : WiredPart). part.inputs) wiring.parts) (out_bits wiring) m has) [
      | inl read ↦
          let found = in_part (λ (part : WiredPart). part.inputs) wiring.parts m read in
          let part = value_of (wired_of library scan) parts found.place found.part found.at in
          let has : Contains (input_nets part.item.body) m = subst (λ (p : WiredPart). Contains p.inputs m) (sym part.is) found.has in
          in_pins m (in_all (λ (p : Part). pins_of p.body) parts found.place part.item m part.at (Contains-append_left (input_nets part.item.body) (output_nets part.item.body) m has))
      | inr out ↦
          let found = in_part (λ (bit : HeaderBit). if bit.is_input then [] else bit.wire ∷ []) wiring.header m out in
          let port = value_of header_of ports found.place found.part found.at in
          in_ports found.place port.item m port.at
          (ap (λ (bit : HeaderBit). bit.wire) port.is ∙ of_out found.part.is_input found.part.wire found.has)
    ]
      where
        of_out : (input : Bool) (wire : ℕ) → Contains (if input then [] else wire ∷ []) m → wire ≡ m
        of_out true wire (k, lt, e) = absurd (omega (arith, lt))
        of_out false wire (zero, lt, e) = e
        of_out false wire (suc k, lt, e) = absurd (omega (arith, lt))

    module _ (wires : ℕ) (within : All (λ (wire : ℕ). wire < wires) touched) (table : NetNumbers) (is : IsNumbering joins wires touched table) where
      abbrev marks : WireMarks
      marks = is.marks

      wire_within : (m : ℕ) → Contains touched m → m < wires
      wire_within m has = subst (λ (w : ℕ). w < wires) has.2 (within has.0 m has.1)

      first_within : (m : ℕ) → m < wires → earliest_of marks m < wires
      first_within m lt = let le = (is.are.each m lt).none_before m (Same refl) in omega (arith, le, lt)

      -- a wire that is joined with one that is its own earliest has it as its earliest
      same_first : (m w : ℕ) → m < wires → w < wires → earliest_of marks w ≡ w → AreJoined joins m w → earliest_of marks m ≡ w
      same_first m w lt lt_w own joined =
          let le = (is.are.each m lt).none_before w joined in
          let ge = (is.are.each w lt_w).none_before (earliest_of marks m)
          (joined_trans joins w m (earliest_of marks m) (joined_sym joins m w joined) (is.are.each m lt).joined) in
          omega (arith, le, ge, own)

      used_when : (m : ℕ) → Contains touched m → IsUsed marks (earliest_of marks m)
      used_when m has =
          let lt = first_within m (wire_within m has) in
          (is.used.each (earliest_of marks m) (let c = is.are.count in omega (arith, lt, c))).1 (m, has, refl)

      reports : ReportsUsed wiring wires marks
      reports = record {
        used = λ w lt own. (
          λ used.
              let found = (is.used.each w (let c = is.are.count in omega (arith, lt, c))).0 used in
              let joined : AreJoined joins found.0 w = subst (AreJoined joins found.0) found.2 (is.are.each found.0 (wire_within found.0 found.1)).joined in
              of_touch found.0 w joined (touched_drives found.0 found.1),
          λ drives. by w lt own drives,
        );
        within = λ w net. from_use w net.earliest net.used;
      }
        where
          of_touch : (m w : ℕ) → AreJoined joins m w → Touches m → ((driving : Driving) × Drives wiring w driving) ⊎ IsLoaded wiring w
          of_touch m w joined (inl drives) = inl (drives.0, record { at = m; drives = drives.1; joined = joined })
          of_touch m w joined (inr load) = inr (record { at = m; load = load; joined = joined })

          mark_of : (m w : ℕ) → w < wires → earliest_of marks w ≡ w → Contains touched m → AreJoined joins m w → IsUsed marks w
          mark_of m w lt own has joined = subst (IsUsed marks) (same_first m w (wire_within m has) lt own joined) (used_when m has)

          by : (w : ℕ) → w < wires → earliest_of marks w ≡ w → ((driving : Driving) × Drives wiring w driving) ⊎ IsLoaded wiring w → IsUsed marks w
          by w lt own (inl drives) = mark_of drives.1.at w lt own (drives_touched drives.0 drives.1.at drives.1.drives) drives.1.joined
          by w lt own (inr load) = mark_of load.at w lt own (load_touched load.at load.load) load.joined

          below : (m w : ℕ) → IsEarliest joins w w → Contains touched m → AreJoined joins m w → w < wires
          below m w first has joined =
              let le = first.none_before m (joined_sym joins m w joined) in
              let lt = wire_within m has in
              omega (arith, le, lt)

          from_use : (w : ℕ) → IsEarliest joins w w → ((driving : Driving) × Drives wiring w driving) ⊎ IsLoaded wiring w → w < wires
          from_use w first (inl drives) = below drives.1.at w first (drives_touched drives.0 drives.1.at drives.1.drives) drives.1.joined
          from_use w first (inr load) = below load.at w first (load_touched load.at load.load) load.joined

      are_nets : AreNets wiring table.nets
      are_nets = nets_are wiring wires marks table is.are reports is.numbered

      net_at : (m : ℕ) → Contains touched m → IsNetOf wiring table.nets m (number_of table.numbers m)
      net_at m has = net_is wiring wires marks table is.are reports is.numbered m (wire_within m has) (used_when m has)

      nets_at : (ms : List ℕ) → ((m : ℕ) → Contains ms m → Contains touched m) → AreNetsOf wiring table.nets ms (map (number_of table.numbers) ms)
      nets_at [] are = tt
      nets_at (m ∷ ms) are =
          (net_at m (are m (0, omega arith, refl)), nets_at ms (λ n has. are n (suc has.0, (let lt = has.1 in omega (arith, lt)), has.2)))

      within_nets : (m : ℕ) → Contains touched m → number_of table.numbers m < length table.nets
      within_nets m has = let net = net_at m has in slice_get_within table.nets (number_of table.numbers m) net.earliest net.at

      all_within : (ms : List ℕ) → ((m : ℕ) → Contains ms m → Contains touched m) → All (λ (net : ℕ). net < length table.nets) (map (number_of table.numbers) ms)
      all_within ms are = All-map (λ (net : ℕ). net < length table.nets) (number_of table.numbers) ms
          (λ k d lt. within_nets (get_or ms k d) (are (get_or ms k d) (Contains-get_or ms k d lt)))

      -- the chip on nets
      abbrev pub chip : LinkedChip
      chip = chip_on library parts ports bits has_zero has_one table

      pin_touched : (u : ℕ) (part : Part) → slice_get parts u ≡ Some part → (m : ℕ) → Contains (pins_of part.body) m → Contains touched m
      pin_touched u part at m has = in_pins m (in_all (λ (p : Part). pins_of p.body) parts u part m at has)

      constant_is : (value is_named : Bool) → (IsTrue is_named ↔ IsNamed wiring (constant_wire wiring value))
          → ((m : ℕ) → Contains (constant_wires (constant_wire wiring value) is_named) m → Contains touched m)
          → (net wire : ℕ) → slice_get table.nets net ≡ Some wire
          → (constant_number table.numbers is_named (constant_wire wiring value) ≡ Some net) ↔ Drives wiring wire (ConstantBit value)
      constant_is value true named are net wire at = (
        λ e.
            let here = net_at (constant_wire wiring value) (are (constant_wire wiring value) (0, omega arith, refl)) in
            let same : number_of table.numbers (constant_wire wiring value) ≡ net = some_inj (number_of table.numbers (constant_wire wiring value)) net e in
            record {
              at = constant_wire wiring value;
              drives = (refl, named.0 refl);
              joined = net_joined wiring table.nets (constant_wire wiring value) net wire (subst (IsNetOf wiring table.nets (constant_wire wiring value)) same here) at;
            },
        λ drives.
            let here = net_at (constant_wire wiring value) (are (constant_wire wiring value) (0, omega arith, refl)) in
            ap Some (joined_net wiring table.nets are_nets (constant_wire wiring value) (number_of table.numbers (constant_wire wiring value)) net wire here
            (subst (λ (w : ℕ). AreJoined joins w wire) (sym drives.drives.0) drives.joined) at),
      )
      constant_is value false named are net wire at = (
        λ e. absurd (none-some net e),
        λ drives. absurd (true≢false (sym (named.1 (subst (IsNamed wiring) (sym drives.drives.0) drives.drives.1)))),
      )

      zero_touched : (m : ℕ) → Contains (constant_wires bits has_zero) m → Contains touched m
      zero_touched m has = in_constants m (Contains-append_left (constant_wires bits has_zero) (constant_wires (bits + 1) has_one) m has)

      one_touched : (m : ℕ) → Contains (constant_wires (bits + 1) has_one) m → Contains touched m
      one_touched m has = in_constants m (Contains-append_right (constant_wires bits has_zero) (constant_wires (bits + 1) has_one) m has)

      constants_are : (net wire : ℕ) (value : Bool) → slice_get table.nets net ≡ Some wire
          → (constant_net chip value ≡ Some net) ↔ Drives wiring wire (ConstantBit value)
      constants_are net wire false at = constant_is false has_zero zero_is zero_touched net wire at
      constants_are net wire true at = constant_is true has_one one_is one_touched net wire at

      module _ (kept : All (IsKept library scan) parts) where
        kept_at : (u : ℕ) (part : Part) → slice_get parts u ≡ Some part → IsKept library scan part
        kept_at u part at = subst (IsKept library scan) (get_or_from_slice_get parts u part part at) (kept u part (slice_get_within parts u part at))

        part_is : (u : ℕ) (part : Part) → slice_get parts u ≡ Some part
            → IsPartOf wiring table.nets (cells_of library) (wired_of library scan part) (numbered_part table.numbers part)
        part_is u part at = record {
          name = refl;
          cell = refl;
          data_pin = (kept_at u part at).data_pin;
          meaning = meaning_numbered (cells_of library) table.numbers (meaning_of library scan part.cell) part.body (kept_at u part at).meant;
          inputs = subst (AreNetsOf wiring table.nets (input_nets part.body)) (sym (inputs_numbered table.numbers part.body))
              (nets_at (input_nets part.body) (λ m has. pin_touched u part at m (Contains-append_left (input_nets part.body) (output_nets part.body) m has)));
          outputs = subst (AreNetsOf wiring table.nets (output_nets part.body)) (sym (outputs_numbered table.numbers part.body))
              (nets_at (output_nets part.body) (λ m has. pin_touched u part at m (Contains-append_right (input_nets part.body) (output_nets part.body) m has)));
        }

        pub link : IsLinkOf wiring chip
        link = record {
          nets = table.nets;
          are = are_nets;
          count = refl;
          constants = constants_are;
          same_parts = length-map parts (numbered_part table.numbers) ∙ sym (length-map parts (wired_of library scan));
          parts = λ u wired part at_wired at.
              let old = value_of (wired_of library scan) parts u wired at_wired in
              let new = value_of (numbered_part table.numbers) parts u part at in
              let same : old.item ≡ new.item = some_inj old.item new.item (sym old.at ∙ new.at) in
              subst (λ (w : WiredPart). IsPartOf wiring table.nets (cells_of library) w part) old.is
              (subst (IsPartOf wiring table.nets (cells_of library) (wired_of library scan old.item)) (ap (numbered_part table.numbers) same ∙ new.is)
              (part_is u old.item old.at));
          same_ports = length-map ports (numbered_port table.numbers) ∙ sym (length-map ports header_of);
          ports = λ p bit port at_bit at.
              let old = value_of header_of ports p bit at_bit in
              let new = value_of (numbered_port table.numbers) ports p port at in
              let same : old.item ≡ new.item = some_inj old.item new.item (sym old.at ∙ new.at) in
              subst (λ (b : HeaderBit). IsPortOf wiring table.nets b port) old.is
              (subst (IsPortOf wiring table.nets (header_of old.item)) (ap (numbered_port table.numbers) same ∙ new.is)
              (record { name = refl; is_input = refl; net = net_at old.item.net (in_ports p old.item old.item.net old.at refl) }));
        }

        -- what holds of each part on wires, holds of all on nets
        each_part : (P : Part → Type 0) → ((u : ℕ) (part : Part) → slice_get parts u ≡ Some part → P (numbered_part table.numbers part))
            → All P (map (numbered_part table.numbers) parts)
        each_part P of = All-map P (numbered_part table.numbers) parts (λ k d lt. of k (get_or parts k d) (slice_get-get_or parts k d lt))

        constant_below : (is_named : Bool) (wire net : ℕ) → ((m : ℕ) → Contains (constant_wires wire is_named) m → Contains touched m)
            → constant_number table.numbers is_named wire ≡ Some net → net < length table.nets
        constant_below true wire net are e = subst (λ (n : ℕ). n < length table.nets) (some_inj (number_of table.numbers wire) net e)
            (within_nets wire (are wire (0, omega arith, refl)))
        constant_below false wire net are e = absurd (none-some net e)

        pub drafted : length parts < 2 ^ 32 → length ports < 2 ^ 32 → wires < 2 ^ 32 → IsDrafted chip
        drafted few_parts few_ports few_wires = record {
          bodies = each_part (λ (p : Part). IsBody (cells_of library) p.body)
              (λ u part at. body_numbered (cells_of library) table.numbers part.body (kept_at u part at).is_body);
          inputs_on_nets = each_part (λ (p : Part). All (λ (net : ℕ). net < length table.nets) (input_nets p.body))
              (λ u part at. subst (All (λ (net : ℕ). net < length table.nets)) (sym (inputs_numbered table.numbers part.body))
              (all_within (input_nets part.body) (λ m has. pin_touched u part at m (Contains-append_left (input_nets part.body) (output_nets part.body) m has))));
          outputs_on_nets = each_part (λ (p : Part). All (λ (net : ℕ). net < length table.nets) (output_nets p.body))
              (λ u part at. subst (All (λ (net : ℕ). net < length table.nets)) (sym (outputs_numbered table.numbers part.body))
              (all_within (output_nets part.body) (λ m has. pin_touched u part at m (Contains-append_right (input_nets part.body) (output_nets part.body) m has))));
          ports_on_nets = All-map (λ (p : PortBit). p.net < length table.nets) (numbered_port table.numbers) ports
              (λ k d lt. within_nets (get_or ports k d).net (in_ports k (get_or ports k d) (get_or ports k d).net (slice_get-get_or ports k d lt) refl));
          zero_on_net = λ net e. constant_below has_zero bits net zero_touched e;
          one_on_net = λ net e. constant_below has_one (bits + 1) net one_touched e;
          few_pins = each_part (λ (p : Part). length (output_nets p.body) < 2 ^ 32)
              (λ u part at.
              let few = (kept_at u part at).few in
              let same = ap length (outputs_numbered table.numbers part.body) ∙ length-map (output_nets part.body) (number_of table.numbers) in
              omega (arith, few, same));
          few_parts = let l = length-map parts (numbered_part table.numbers) in omega (arith, l, few_parts);
          few_ports = let l = length-map ports (numbered_port table.numbers) in omega (arith, l, few_ports);
          few_nets = let few = is.numbered.few in omega (arith, few, few_wires);
        }
