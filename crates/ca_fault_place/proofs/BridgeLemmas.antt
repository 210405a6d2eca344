-- The wires that nets stand on are those that something drives or loads, among the wires of declared bits and
-- of constants.
use Rattle.std.proofs.Common.{◌≡◌, ℕ, zero, suc, ◌+◌, ◌<◌, ◌≤◌, ◌⊎◌, List, [], ◌∷◌, ◌++◌, Bool, true, false}
use Rattle.std.proofs.Common.{map, inl, inr, refl, sym, ◌∙◌, ap, subst, arith, true≢false}
use Rattle.std.specs.Prelude.{Option, Some, None, slice_get, IsTrue, if◌then◌else◌}
use Rattle.std.specs.List.{All, Contains, flat_map, list_any}
use Rattle.std.proofs.lemmas.List.Elements.{Contains-append_cases, Contains-append_left, Contains-append_right}
use Rattle.std.proofs.lemmas.Option.{slice_get_within}
use Rattle.ca_cell.specs.Library.{Named}
use Rattle.ca_verilog.specs.declared.raw.RawBit.{RawBit}
use Rattle.ca_verilog.specs.declared.raw.RawUse.{RawUse}
use Rattle.ca_verilog.specs.declared.raw.RawInstance.{RawInstance}
use Rattle.ca_verilog.specs.declared.raw.RawSpan.{RawSpan}
use Rattle.ca_verilog.specs.declared.raw.RawJoin.{RawJoin}
use Rattle.ca_verilog.specs.declared.raw.RawNetlist.{RawNetlist}
use Rattle.ca_verilog.specs.Joins.{pairs_of}
use Rattle.ca_verilog.specs.IsNetlist.{bit_count, IsInstanceOf, IsJoinOf, IsNetlist}
use Rattle.ca_wiring.specs.declared.scan_row.ScanRow.{ScanRow}
use Rattle.ca_wiring.specs.declared.joined.Join.{Join}
use Rattle.ca_wiring.specs.Wiring.{HeaderBit, Wiring, WiredPart, header_bits, joins_of, meaning_of, open_count, out_bits}
use Rattle.ca_wiring.specs.Wiring.{output_names, wire_of, wired_part, wired_parts, wiring_of}
use Rattle.ca_wiring.specs.Nets.{Driving, ConstantBit, OutputPin, DrivesWire, IsNamed, constant_wire}
use Rattle.ca_wiring.specs.Nets as nets
use Rattle.ca_wiring.specs.InstanceRules.{AreSound}
use Rattle.ca_linked.proofs.DriverLemmas.{some_inj, to_some}
use Rattle.ca_linked.proofs.FeedingLemmas.{item_of}
use Rattle.ca_linked.proofs.OrderLemmas.{place_of, contained_at}
use Rattle.ca_draft.specs.OnWires.{constant_wires, has_constant}
use Rattle.ca_draft.proofs.ConstantLemmas.{in_part, in_all, value_of, value_at, sides_of, constant_at, joined_named, named_joined}
use Rattle.ca_fault_place.specs.code.Touched.{use_wires, instance_wires, touched_of}
use Rattle.ca_fault_place.proofs.WithinLemmas.{one_of}
use Rattle.ca_fault_place.proofs.UseLemmas.{use_at, input_from, output_from}

-- an instance of the netlist as it is wired, its wires of its own being numbered from `own` on
pub record IsWiredAt (library : List Named) (scan : List ScanRow) (bits least : ℕ) (parts : List WiredPart) (u : ℕ)
    (instance : RawInstance) : Type 0 where
  pub own : ℕ
  pub following : least ≤ own
  pub at : slice_get parts u ≡ Some (wired_part bits own (meaning_of library scan instance.cell) instance)

module _ (library : List Named) (scan : List ScanRow) (bits : ℕ) where
  pub wired_at : (own : ℕ) (instances : List RawInstance) (u : ℕ) (instance : RawInstance) → slice_get instances u ≡ Some instance
      → IsWiredAt library scan bits own (wired_parts library scan bits own instances) u instance
  wired_at own [] u instance at = absurd (let lt = slice_get_within [] u instance at in omega (arith, lt))
  wired_at own (first ∷ more) zero instance at = record {
    own = own;
    following = omega arith;
    at = ap (λ (i : RawInstance). Some (wired_part bits own (meaning_of library scan i.cell) i)) (some_inj first instance at);
  }
  wired_at own (first ∷ more) (suc u) instance at =
      let rest = wired_at (own + open_count first.pins (output_names (meaning_of library scan first.cell))) more u instance at in
      let le = rest.following in
      record { own = rest.own; following = omega (arith, le); at = rest.at }

  pub instance_at : (own : ℕ) (instances : List RawInstance) (u : ℕ) (part : WiredPart)
      → slice_get (wired_parts library scan bits own instances) u ≡ Some part → (instance : RawInstance) × (slice_get instances u ≡ Some instance)
  instance_at own [] u part at = absurd (let lt = slice_get_within [] u part at in omega (arith, lt))
  instance_at own (first ∷ more) zero part at = (first, refl)
  instance_at own (first ∷ more) (suc u) part at =
      instance_at (own + open_count first.pins (output_names (meaning_of library scan first.cell))) more u part at

module _ (raw : RawNetlist) (library : List Named) (scan : List ScanRow) (is : IsNetlist raw) (sound : AreSound raw library scan)
    (spans : List RawSpan) (are_spans : flat_map pairs_of spans ≡ raw.joins) where
  abbrev pub bits : ℕ
  bits = bit_count raw.buses

  abbrev pub wiring : Wiring
  wiring = wiring_of raw library scan

  abbrev touched : List ℕ
  touched = touched_of raw bits spans

  abbrev of_uses : List ℕ
  of_uses = flat_map (instance_wires bits) raw.instances

  abbrev of_ports : List ℕ
  of_ports = map (λ (bit : HeaderBit). bit.wire) (header_bits raw.buses raw.ports)

  abbrev of_zero : List ℕ
  of_zero = constant_wires bits (list_any (has_constant false) spans)

  abbrev of_one : List ℕ
  of_one = constant_wires (bits + 1) (list_any (has_constant true) spans)

  -- something drives or loads the wire
  abbrev pub Touches : ℕ → Type 0
  Touches m = ((driving : Driving) × DrivesWire wiring driving m)
      ⊎ Contains (flat_map (λ (part : WiredPart). part.inputs) wiring.parts ++ out_bits wiring) m

  found_at : (u : ℕ) (instance : RawInstance) → slice_get raw.instances u ≡ Some instance
      → IsWiredAt library scan bits (bits + 2) wiring.parts u instance
  found_at u instance at = wired_at library scan bits (bits + 2) raw.instances u instance at

  load_of : (u : ℕ) (part : WiredPart) (m : ℕ) → slice_get wiring.parts u ≡ Some part → Contains part.inputs m → Touches m
  load_of u part m at has =
      inr (Contains-append_left (flat_map (λ (part : WiredPart). part.inputs) wiring.parts) (out_bits wiring) m
      (in_all (λ (part : WiredPart). part.inputs) wiring.parts u part m at has))

  from_use : (m : ℕ) → Contains of_uses m → Touches m
  from_use m has =
      let found = in_part (instance_wires bits) raw.instances m has in
      let used = in_part (λ (used : RawUse). use_wires bits used.bit) found.part.pins m found.has in
      by found.place found.part found.at used.place used.part used.at used.part.bit refl used.has
    where
      by : (u : ℕ) (instance : RawInstance) → slice_get raw.instances u ≡ Some instance → (k : ℕ) (used : RawUse)
          → slice_get instance.pins k ≡ Some used → (b : Option RawBit) → used.bit ≡ b → Contains (use_wires bits b) m → Touches m
      by u instance at k used there None on has = absurd (let lt = has.1 in omega (arith, lt))
      by u instance at k used there (Some bit) on (suc j, lt, e) = absurd (omega (arith, lt))
      by u instance at k used there (Some bit) on (zero, lt, e) =
          let wired = found_at u instance at in
          let of = one_of (IsInstanceOf bits) raw.instances u instance is.instances at in
          let meaning = meaning_of library scan instance.cell in
          subst Touches e (elim (use_at bits instance.pins meaning (sound u instance at) of.distinct wired.own k used bit there on) [
            | inl input ↦ load_of u (wired_part bits wired.own meaning instance) (wire_of bits bit) wired.at input
            | inr output ↦ inl (OutputPin u output.0, (wired_part bits wired.own meaning instance, wired.at, output.1))
          ])

  from_port : (m : ℕ) → Contains of_ports m → Touches m
  from_port m has =
      let found = value_of (λ (bit : HeaderBit). bit.wire) wiring.header has.0 m (place_of of_ports m has) in
      by has.0 found.item found.at found.is found.item.is_input refl
    where
      by : (p : ℕ) (port : HeaderBit) → slice_get wiring.header p ≡ Some port → port.wire ≡ m → (input : Bool) → port.is_input ≡ input → Touches m
      by p port at same true e = inl (
        nets.PortBit p,
        to_some (λ (bit : HeaderBit). IsTrue bit.is_input × (bit.wire ≡ m)) (slice_get wiring.header p) port at (e, same),
      )
      by p port at same false e = inr (Contains-append_right (flat_map (λ (part : WiredPart). part.inputs) wiring.parts) (out_bits wiring) m
          (in_all (λ (bit : HeaderBit). if bit.is_input then [] else bit.wire ∷ []) wiring.header p port m at
          (subst (λ (b : Bool). Contains (if b then [] else port.wire ∷ []) m) (sym e) (0, omega arith, same))))

  constant_same : (value : Bool) → constant_at bits value ≡ constant_wire wiring value
  constant_same false = refl
  constant_same true = refl

  from_constant : (value : Bool) (m : ℕ) (named : Bool) → list_any (has_constant value) spans ≡ named
      → Contains (constant_wires (constant_wire wiring value) named) m → Touches m
  from_constant value m false e has = absurd (let lt = has.1 in omega (arith, lt))
  from_constant value m true e (suc k, lt, same) = absurd (omega (arith, lt))
  from_constant value m true e (zero, lt, same) =
      let sides : Contains (flat_map sides_of (joins_of bits raw.joins)) (constant_wire wiring value) =
      subst (λ (joins : List RawJoin). Contains (flat_map sides_of (joins_of bits joins)) (constant_wire wiring value)) are_spans
      (subst (Contains (flat_map sides_of (joins_of bits (flat_map pairs_of spans)))) (constant_same value) (joined_named bits value spans e)) in
      let named : IsNamed wiring (constant_wire wiring value) = record { named = inr sides } in
      inl (ConstantBit value, (same, subst (IsNamed wiring) same named))

  pub touched_touches : (m : ℕ) → Contains touched m → Touches m
  touched_touches m has = elim (Contains-append_cases of_uses (of_ports ++ (of_zero ++ of_one)) m has) [
    | inl used ↦ from_use m used
    | inr rest ↦ elim (Contains-append_cases of_ports (of_zero ++ of_one) m rest) [
      | inl port ↦ from_port m port
      | inr constant ↦ elim (Contains-append_cases of_zero of_one m constant) [
        | inl low ↦ from_constant false m (list_any (has_constant false) spans) refl low
        | inr high ↦ from_constant true m (list_any (has_constant true) spans) refl high
      ]
    ]
  ]

  in_uses : (m : ℕ) → Contains of_uses m → Contains touched m
  in_uses m has = Contains-append_left of_uses (of_ports ++ (of_zero ++ of_one)) m has

  in_ports : (p : ℕ) (port : HeaderBit) (m : ℕ) → slice_get wiring.header p ≡ Some port → port.wire ≡ m → Contains touched m
  in_ports p port m at same =
      Contains-append_right of_uses (of_ports ++ (of_zero ++ of_one)) m (Contains-append_left of_ports (of_zero ++ of_one) m
      (contained_at of_ports p m (value_at (λ (bit : HeaderBit). bit.wire) wiring.header p port at ∙ ap Some same)))

  of_named : (wire : ℕ) (named : Bool) (m : ℕ) → named ≡ true → wire ≡ m → Contains (constant_wires wire named) m
  of_named wire true m e same = (0, omega arith, same)
  of_named wire false m e same = absurd (true≢false (sym e))

  in_constants : (value : Bool) (m : ℕ) → list_any (has_constant value) spans ≡ true → constant_wire wiring value ≡ m → Contains touched m
  in_constants false m e same =
      Contains-append_right of_uses (of_ports ++ (of_zero ++ of_one)) m (Contains-append_right of_ports (of_zero ++ of_one) m
      (Contains-append_left of_zero of_one m (of_named bits (list_any (has_constant false) spans) m e same)))
  in_constants true m e same =
      Contains-append_right of_uses (of_ports ++ (of_zero ++ of_one)) m (Contains-append_right of_ports (of_zero ++ of_one) m
      (Contains-append_right of_zero of_one m (of_named (bits + 1) (list_any (has_constant true) spans) m e same)))

  -- the wires of an instance's pins, but its own, are those of its connections
  of_input : (u : ℕ) (part : WiredPart) (m : ℕ) → slice_get wiring.parts u ≡ Some part → Contains part.inputs m → Contains touched m
  of_input u part m at has =
      let instance = instance_at library scan bits (bits + 2) raw.instances u part at in
      let wired = found_at u instance.0 instance.1 in
      let meaning = meaning_of library scan instance.0.cell in
      let same : part ≡ wired_part bits wired.own meaning instance.0 =
      some_inj part (wired_part bits wired.own meaning instance.0) (sym at ∙ wired.at) in
      in_uses m (in_all (instance_wires bits) raw.instances u instance.0 m instance.1
      (input_from bits instance.0.pins meaning (sound u instance.0 instance.1) m (subst (λ (p : WiredPart). Contains p.inputs m) same has)))

  of_output : (u : ℕ) (part : WiredPart) (pin m : ℕ) → m < bits + 2 → slice_get wiring.parts u ≡ Some part
      → slice_get part.outputs pin ≡ Some m → Contains touched m
  of_output u part pin m lt at there =
      let instance = instance_at library scan bits (bits + 2) raw.instances u part at in
      let wired = found_at u instance.0 instance.1 in
      let meaning = meaning_of library scan instance.0.cell in
      let same : part ≡ wired_part bits wired.own meaning instance.0 =
      some_inj part (wired_part bits wired.own meaning instance.0) (sym at ∙ wired.at) in
      elim (output_from bits instance.0.pins wired.own (output_names meaning) pin m
      (subst (λ (p : WiredPart). slice_get p.outputs pin ≡ Some m) same there)) [
        | inl has ↦ in_uses m (in_all (instance_wires bits) raw.instances u instance.0 m instance.1 has)
        | inr le ↦ absurd (let least = wired.following in omega (arith, le, lt, least))
      ]

  of_pin : (m : ℕ) → m < bits + 2 → Contains (flat_map (λ (part : WiredPart). part.inputs ++ part.outputs) wiring.parts) m → Contains touched m
  of_pin m lt has =
      let found = in_part (λ (part : WiredPart). part.inputs ++ part.outputs) wiring.parts m has in
      elim (Contains-append_cases found.part.inputs found.part.outputs m found.has) [
        | inl input ↦ of_input found.place found.part m found.at input
        | inr output ↦ of_output found.place found.part output.0 m lt found.at (place_of found.part.outputs m output)
      ]

  of_sides : (value : Bool) (m : ℕ) → constant_wire wiring value ≡ m
      → Contains (flat_map (λ (join : Join). join.left ∷ join.right ∷ []) wiring.joins) m → Contains touched m
  of_sides value m same has =
      let sides : Contains (flat_map sides_of (joins_of bits raw.joins)) (constant_at bits value) =
      subst (Contains (flat_map sides_of (joins_of bits raw.joins))) (sym (constant_same value ∙ same)) has in
      let joins : Contains (flat_map sides_of (joins_of bits (flat_map pairs_of spans))) (constant_at bits value) =
      subst (λ (joins : List RawJoin). Contains (flat_map sides_of (joins_of bits joins)) (constant_at bits value)) (sym are_spans) sides in
      in_constants value m (named_joined bits value spans (subst (All (IsJoinOf bits)) (sym are_spans) is.joins) joins) same

  pub drives_touched : (driving : Driving) (m : ℕ) → m < bits + 2 → DrivesWire wiring driving m → Contains touched m
  drives_touched (nets.PortBit p) m lt drives =
      let found = item_of wiring.header p (λ (bit : HeaderBit). IsTrue bit.is_input × (bit.wire ≡ m)) drives in
      in_ports p found.item m found.at found.has.1
  drives_touched (ConstantBit value) m lt (same, named) = elim named.named [
    | inl pin ↦ of_pin m lt pin
    | inr sides ↦ of_sides value m same sides
  ]
  drives_touched (OutputPin u pin) m lt (part, at, there) = of_output u part pin m lt at there

  pub load_touched : (m : ℕ) → m < bits + 2
      → Contains (flat_map (λ (part : WiredPart). part.inputs) wiring.parts ++ out_bits wiring) m → Contains touched m
  load_touched m lt has = elim (Contains-append_cases (flat_map (λ (part : WiredPart). part.inputs) wiring.parts) (out_bits wiring) m has) [
    | inl read ↦
        let found = in_part (λ (part : WiredPart). part.inputs) wiring.parts m read in
        of_input found.place found.part m found.at found.has
    | inr out ↦
        let found = in_part (λ (bit : HeaderBit). if bit.is_input then [] else bit.wire ∷ []) wiring.header m out in
        in_ports found.place found.part m found.at (of_out found.part.is_input found.part.wire found.has)
  ]
    where
      of_out : (input : Bool) (wire : ℕ) → Contains (if input then [] else wire ∷ []) m → wire ≡ m
      of_out true wire (k, lt, e) = absurd (omega (arith, lt))
      of_out false wire (zero, lt, e) = e
      of_out false wire (suc k, lt, e) = absurd (omega (arith, lt))
