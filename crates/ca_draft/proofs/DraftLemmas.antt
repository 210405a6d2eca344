-- What is made of instances and port bits on their wires.
use Rattle.std.proofs.Common.{◌≡◌, ℕ, ◌+◌, ◌<◌, ◌≤◌, ◌^◌, List, [], ◌∷◌, ◌++◌, Bool, true, false, length, map}
use Rattle.std.proofs.Common.{inl, inr, refl, sym, ◌∙◌, ap, arith, subst, get_or, length-append}
use Rattle.std.specs.Prelude.{◌⊎◌, ◌↔◌, Option, Some, None, IsTrue, drop, if◌then◌else◌}
use Rattle.std.specs.List.{All, Contains, flat_map}
use Rattle.std.specs.Str.{bytes_eq}
use Rattle.std.proofs.lemmas.List.{get_or_append_left, get_or-append-add, append-nil}
use Rattle.std.proofs.lemmas.List.Elements.{All-nil, All-cons, All-head, All-tail, All-append, All-map}
use Rattle.std.proofs.lemmas.List.Elements.{All-contains, Contains-get_or, Contains-append_left}
use Rattle.std.proofs.lemmas.Option.{slice_get-get_or, slice_get_within, get_or_from_slice_get}
use Rattle.ca_cell.specs.Library.{Named}
use Rattle.ca_verilog.specs.declared.raw.RawBit.{RawBit}
use Rattle.ca_verilog.specs.declared.raw.RawBit.TheVariants.{Bit, Constant}
use Rattle.ca_verilog.specs.declared.raw.RawBus.{RawBus}
use Rattle.ca_verilog.specs.declared.raw.RawJoin.{RawJoin}
use Rattle.ca_verilog.specs.declared.raw.RawSpan.{RawSpan}
use Rattle.ca_verilog.specs.declared.raw.RawNetlist.{RawNetlist}
use Rattle.ca_verilog.specs.declared.raw.RawUse.{RawUse}
use Rattle.ca_verilog.specs.declared.raw.RawInstance.{RawInstance}
use Rattle.ca_verilog.specs.Joins.{pairs_of}
use Rattle.ca_verilog.specs.IsNetlist.{bit_count, IsBit, IsOnBit, IsJoinOf, IsInstanceOf, IsNetlist}
use Rattle.ca_linked.specs.declared.parts.Part.{Part}
use Rattle.ca_linked.specs.declared.parts.PortBit.{PortBit}
use Rattle.ca_wiring.specs.declared.scan_row.ScanRow.{ScanRow}
use Rattle.ca_wiring.specs.Wiring.{meaning_of, input_names, output_names, bit_on, wire_of, input_wire}
use Rattle.ca_wiring.specs.Wiring.{input_wires, output_wires, open_count, WiredPart, HeaderBit, Wiring}
use Rattle.ca_wiring.specs.Wiring.{wired_parts, header_bits, joins_of, wiring_of}
use Rattle.ca_wiring.specs.Nets.{IsNamed}
use Rattle.ca_wiring.specs.declared.joined.Join.{Join}
use Rattle.ca_wiring.specs.Joined.{Same, AreEarliest}
use Rattle.ca_wiring.specs.Linking.{IsLinkOf}
use Rattle.ca_wiring.specs.Numbers.{NetNumbers, LeadsToEarliest}
use Rattle.ca_wiring.proofs.NetLemmas.{leads}
use Rattle.ca_linked.specs.Linked.{LinkedChip}
use Rattle.ca_linked.specs.Drivers.{IsDrafted}
use Rattle.ca_draft.specs.code.OnWires.{pins_of, output_wire, next_own, wired_of, header_of, open_counts}
use Rattle.ca_draft.specs.OnWires.{constant_wires}
use Rattle.ca_draft.specs.code.OnWires.{AreOnWires, touched_of, wiring_on, AreMarks, IsNamedBy}
use Rattle.ca_draft.specs.code.OnWires.{IsNumbering, IsNetlistOnWires, chip_on, cells_of, constant_number}
use Rattle.ca_draft.specs.code.OnWires.{numbered_part, numbered_port}
use Rattle.ca_draft.specs.declared.draft.OnWires.{OnWires}
use Rattle.ca_draft.proofs.OutputLemmas.{outputs_cons, open_cons}
use Rattle.ca_draft.proofs.HeaderLemmas.{header_within}
use Rattle.ca_draft.proofs.ConstantLemmas.{in_all, value_at, sides_of, constant_at, joined_named}
use Rattle.ca_draft.proofs.ConstantLemmas.{named_joined}
use Rattle.ca_draft.proofs.LinkLemmas.{named_pins, link, drafted}

-- what holds of all of two lists, holds of each
pub front_all : {X : Type 0} (P : X → Type 0) (xs ys : List X) → All P (xs ++ ys) → All P xs
front_all P xs ys all k d lt = subst P (get_or_append_left xs ys d k lt) (all k d (let l = length-append xs ys in omega (arith, l, lt)))

pub after_all : {X : Type 0} (P : X → Type 0) (xs ys : List X) → All P (xs ++ ys) → All P ys
after_all P xs ys all k d lt = subst P (get_or-append-add xs ys k d) (all (length xs + k) d (let l = length-append xs ys in omega (arith, l, lt)))

-- what holds of all values of a list, holds of each
pub map_all : {X Y : Type 0} (f : X → Y) (P : Y → Type 0) (xs : List X) → All P (map f xs) → All (λ x. P (f x)) xs
map_all f P xs all k d lt =
    let at = value_at f xs k (get_or xs k d) (slice_get-get_or xs k d lt) in
    subst P (get_or_from_slice_get (map f xs) k (f (get_or xs k d)) (f (get_or xs k d)) at)
    (all k (f (get_or xs k d)) (slice_get_within (map f xs) k (f (get_or xs k d)) at))

-- what holds of the parts of all, holds of what is made of them
pub flat_all : {X : Type 0} (f : X → List ℕ) (P : ℕ → Type 0) (xs : List X) → All (λ x. All P (f x)) xs → All P (flat_map f xs)
flat_all f P [] all = All-nil P
flat_all f P (x ∷ xs) all = All-append P (f x) (flat_map f xs) (All-head (λ x. All P (f x)) x xs all) (flat_all f P xs (All-tail (λ x. All P (f x)) x xs all))

module _ (bits : ℕ) where
  -- what is on a pin is a declared bit or a constant
  on_bit : (uses : List RawUse) (name : List ℕ) → All (λ (used : RawUse). IsOnBit bits used.bit) uses → IsOnBit bits (bit_on uses name)
  on_bit [] name all = tt
  on_bit (used ∷ more) name all =
      by (bytes_eq name used.pin) (All-head (λ (u : RawUse). IsOnBit bits u.bit) used more all) (on_bit more name (All-tail (λ (u : RawUse). IsOnBit bits u.bit) used more all))
    where
      by : (same : Bool) → IsOnBit bits used.bit → IsOnBit bits (bit_on more name) → IsOnBit bits (if same then used.bit else bit_on more name)
      by true here later = here
      by false here later = later

  bit_below : (bit : RawBit) → IsBit bits bit → wire_of bits bit < bits + 2
  bit_below (Bit number) is = omega (arith, is)
  bit_below (Constant true) is = omega arith
  bit_below (Constant false) is = omega arith

  input_below : (bit : Option RawBit) → IsOnBit bits bit → input_wire bits bit < bits + 2
  input_below None is = omega arith
  input_below (Some bit) is = bit_below bit is

  module _ (uses : List RawUse) (are : All (λ (used : RawUse). IsOnBit bits used.bit) uses) where
    inputs_below : (most : ℕ) → bits + 2 ≤ most → (names : List (List ℕ)) → All (λ (w : ℕ). w < most) (input_wires bits uses names)
    inputs_below most le [] = All-nil (λ (w : ℕ). w < most)
    inputs_below most le (name ∷ names) =
        All-cons (λ (w : ℕ). w < most) _ _ (let lt = input_below (bit_on uses name) (on_bit uses name are) in omega (arith, lt, le)) (inputs_below most le names)

    outputs_below : (most own : ℕ) → bits + 2 ≤ own → (names : List (List ℕ)) → own + open_count uses names ≤ most
        → All (λ (w : ℕ). w < most) (output_wires bits uses own names)
    outputs_below most own le [] fits = All-nil (λ (w : ℕ). w < most)
    outputs_below most own le (name ∷ names) fits =
        let next = open_cons bits uses own name names in
        let first = by (bit_on uses name) (on_bit uses name are) in
        subst (All (λ (w : ℕ). w < most)) (sym (outputs_cons bits uses own name names))
        (All-cons (λ (w : ℕ). w < most) _ _ (omega (arith, first.0, first.1, next, fits))
        (outputs_below most (next_own own (bit_on uses name)) (omega (arith, first.1, le)) names (omega (arith, next, fits))))
      where
        by : (bit : Option RawBit) → IsOnBit bits bit → (output_wire bits own bit < next_own own bit) × (own ≤ next_own own bit)
        by None is = (omega arith, omega arith)
        by (Some bit) is = ((let lt = bit_below bit is in omega (arith, lt, le)), omega arith)

  parts_below : (library : List Named) (scan : List ScanRow) (most own : ℕ) (instances : List RawInstance) → bits + 2 ≤ own
      → own + open_counts library scan instances ≤ most → All (IsInstanceOf bits) instances
      → All (λ (part : WiredPart). All (λ (w : ℕ). w < most) (part.inputs ++ part.outputs)) (wired_parts library scan bits own instances)
  parts_below library scan most own [] le fits are = All-nil (λ (part : WiredPart). All (λ (w : ℕ). w < most) (part.inputs ++ part.outputs))
  parts_below library scan most own (instance ∷ more) le fits are =
      let meaning = meaning_of library scan instance.cell in
      let here = All-head (IsInstanceOf bits) instance more are in
      All-cons (λ (part : WiredPart). All (λ (w : ℕ). w < most) (part.inputs ++ part.outputs)) _ _
      (All-append (λ (w : ℕ). w < most) (input_wires bits instance.pins (input_names meaning)) (output_wires bits instance.pins own (output_names meaning))
      (inputs_below instance.pins here.on_bits most (omega (arith, le, fits)) (input_names meaning))
      (outputs_below instance.pins here.on_bits most own le (output_names meaning) (omega (arith, fits))))
      (parts_below library scan most (own + open_count instance.pins (output_names meaning)) more (omega (arith, le)) (omega (arith, fits))
      (All-tail (IsInstanceOf bits) instance more are))

-- all instances are on their wires
pub record AreAllOnWires (library : List Named) (scan : List ScanRow) (bits own : ℕ) (instances : List RawInstance) (parts : List Part) : Type 0 where
  pub wired : wired_parts library scan bits (bits + 2) instances ≡ map (wired_of library scan) parts
  pub counted : (bits + 2) + open_counts library scan instances ≡ own
  pub below : All (λ (part : Part). All (λ (w : ℕ). w < own) (pins_of part.body)) parts

drop_end : {X : Type 0} (xs : List X) → drop (length xs) xs ≡ []
drop_end [] = refl
drop_end (x ∷ xs) = drop_end xs

pub all_on_wires : (library : List Named) (scan : List ScanRow) (bits own : ℕ) (instances : List RawInstance) (parts : List Part)
    → AreOnWires library scan bits instances (length instances) own parts → All (IsInstanceOf bits) instances
    → AreAllOnWires library scan bits own instances parts
all_on_wires library scan bits own instances parts are instances_are =
    let wired : wired_parts library scan bits (bits + 2) instances ≡ map (wired_of library scan) parts =
    are.wired ∙ ap (λ (rest : List RawInstance). map (wired_of library scan) parts ++ wired_parts library scan bits own rest) (drop_end instances)
    ∙ append-nil (map (wired_of library scan) parts) in
    let counted : (bits + 2) + open_counts library scan instances ≡ own =
    are.counted ∙ ap (λ (rest : List RawInstance). own + open_counts library scan rest) (drop_end instances) ∙ (let e : own + 0 ≡ own = omega arith in e) in
    record {
      wired = wired;
      counted = counted;
      below = map_all (wired_of library scan) (λ (part : WiredPart). All (λ (w : ℕ). w < own) (part.inputs ++ part.outputs)) parts
          (subst (All (λ (part : WiredPart). All (λ (w : ℕ). w < own) (part.inputs ++ part.outputs))) wired
          (parts_below bits library scan own (bits + 2) instances (omega arith) (omega (arith, counted)) instances_are));
    }

-- all that is touched is among the wires
pub touched_below : (parts : List Part) (ports : List PortBit) (bits wires : ℕ) (has_zero has_one : Bool) → bits + 2 ≤ wires
    → All (λ (part : Part). All (λ (w : ℕ). w < wires) (pins_of part.body)) parts → All (λ (port : PortBit). port.net < bits) ports
    → All (λ (w : ℕ). w < wires) (touched_of parts ports bits has_zero has_one)
touched_below parts ports bits wires has_zero has_one le of_parts of_ports =
    let P : ℕ → Type 0 = λ w. w < wires in
    All-append P (flat_map (λ (part : Part). pins_of part.body) parts) _ (flat_all (λ (part : Part). pins_of part.body) P parts of_parts)
    (All-append P (map (λ (port : PortBit). port.net) ports) _
    (All-map P (λ (port : PortBit). port.net) ports (λ k d lt. let less = of_ports k d lt in omega (arith, less, le)))
    (All-append P (constant_wires bits has_zero) (constant_wires (bits + 1) has_one)
    (constant_below bits has_zero (omega (arith, le))) (constant_below (bits + 1) has_one (omega (arith, le)))))
  where
    constant_below : (wire : ℕ) (is_named : Bool) → wire < wires → All (λ (w : ℕ). w < wires) (constant_wires wire is_named)
    constant_below wire true lt = All-cons (λ (w : ℕ). w < wires) wire [] lt (All-nil (λ (w : ℕ). w < wires))
    constant_below wire false lt = All-nil (λ (w : ℕ). w < wires)

-- the ports are on declared bits
pub ports_below : (buses : List RawBus) (places : List ℕ) (ports : List PortBit) (bits : ℕ) → bits ≡ bit_count buses
    → header_bits buses places ≡ map header_of ports → All (λ (port : PortBit). port.net < bits) ports
ports_below buses places ports bits is header =
    subst (λ (n : ℕ). All (λ (port : PortBit). port.net < n) ports) (sym is)
    (map_all header_of (λ (bit : HeaderBit). bit.wire < bit_count buses) ports
    (subst (All (λ (bit : HeaderBit). bit.wire < bit_count buses)) header (header_within buses places)))

-- a constant is named where it is on a pin or in a span
module _ (library : List Named) (scan : List ScanRow) (parts : List Part) (ports : List PortBit) (bits : ℕ) (spans : List RawSpan) (value : Bool) where
  -- the wiring with the joins of these spans
  abbrev on : Wiring
  on = wiring_on library scan parts ports bits (joins_of bits (flat_map pairs_of spans))

  pins : flat_map (λ (part : WiredPart). part.inputs ++ part.outputs) on.parts ≡ flat_map (λ (part : Part). pins_of part.body) parts
  pins = named_pins library scan parts ports bits (joins_of bits (flat_map pairs_of spans))

  to_named : IsNamedBy parts spans (constant_at bits value) value → IsNamed on (constant_at bits value)
  to_named (inl pin) = record { named = inl (subst (λ (l : List ℕ). Contains l (constant_at bits value)) (sym pins) pin) }
  to_named (inr join) = record { named = inr (joined_named bits value spans join) }

  from_named : All (IsJoinOf bits) (flat_map pairs_of spans)
      → Contains (flat_map (λ (part : WiredPart). part.inputs ++ part.outputs) on.parts) (constant_at bits value)
      ⊎ Contains (flat_map sides_of on.joins) (constant_at bits value) → IsNamedBy parts spans (constant_at bits value) value
  from_named joined (inl pin) = inl (subst (λ (l : List ℕ). Contains l (constant_at bits value)) pins pin)
  from_named joined (inr side) = inr (named_joined bits value spans joined side)

  pub named_is : (is_named : Bool) → All (IsJoinOf bits) (flat_map pairs_of spans)
      → (IsTrue is_named ↔ IsNamedBy parts spans (constant_at bits value) value)
      → IsTrue is_named ↔ IsNamed on (constant_at bits value)
  named_is is_named joined both = (
    λ reported. to_named (both.0 reported),
    λ named. both.1 (from_named joined named.named),
  )

-- the whole netlist is on its wires
pub netlist_is : (raw : RawNetlist) (library : List Named) (scan : List ScanRow) (made : OnWires) (spans : List RawSpan) → IsNetlist raw
    → made.bits ≡ bit_count raw.buses
    → header_bits raw.buses raw.ports ≡ map header_of made.ports.items
    → length made.ports.items < 2 ^ 32
    → AreOnWires library scan made.bits raw.instances (length raw.instances) made.wires made.parts.items
    → flat_map pairs_of spans ≡ raw.joins
    → made.touched.wires.items ≡ touched_of made.parts.items made.ports.items made.bits made.touched.zero made.touched.one
    → (IsTrue made.touched.zero ↔ IsNamedBy made.parts.items spans made.bits false)
    → (IsTrue made.touched.one ↔ IsNamedBy made.parts.items spans (made.bits + 1) true)
    → IsNetlistOnWires raw library scan made
netlist_is raw library scan made spans is bits header few are joins wires zero_named one_named =
    let instances_are : All (IsInstanceOf made.bits) raw.instances = subst (λ n. All (IsInstanceOf n) raw.instances) (sym bits) is.instances in
    let all = all_on_wires library scan made.bits made.wires raw.instances made.parts.items are instances_are in
    let joined : All (IsJoinOf made.bits) raw.joins = subst (λ n. All (IsJoinOf n) raw.joins) (sym bits) is.joins in
    let of_spans : All (IsJoinOf made.bits) (flat_map pairs_of spans) = subst (All (IsJoinOf made.bits)) (sym joins) joined in
    let counted = all.counted in
    record {
      is_wiring =
          ap (λ (l : List WiredPart). let made_of : Wiring = record { bits = made.bits; joins = joins_of made.bits raw.joins; parts = l; header = map header_of made.ports.items } in made_of)
          (sym all.wired)
          ∙ ap (λ (l : List HeaderBit). let made_of : Wiring = record { bits = made.bits; joins = joins_of made.bits raw.joins; parts = wired_parts library scan made.bits (made.bits + 2) raw.instances; header = l } in made_of)
          (sym header)
          ∙ ap (λ (n : ℕ). let made_of : Wiring = record { bits = n; joins = joins_of n raw.joins; parts = wired_parts library scan n (n + 2) raw.instances; header = header_bits raw.buses raw.ports } in made_of) bits;
      kept = are.kept;
      joined = joined;
      zero_is = subst (λ (l : List RawJoin). IsTrue made.touched.zero ↔ IsNamed (wiring_on library scan made.parts.items made.ports.items made.bits (joins_of made.bits l)) made.bits) joins
          (named_is library scan made.parts.items made.ports.items made.bits spans false made.touched.zero of_spans zero_named);
      one_is = subst (λ (l : List RawJoin). IsTrue made.touched.one ↔ IsNamed (wiring_on library scan made.parts.items made.ports.items made.bits (joins_of made.bits l)) (made.bits + 1)) joins
          (named_is library scan made.parts.items made.ports.items made.bits spans true made.touched.one of_spans one_named);
      wires = wires;
      within = subst (All (λ (w : ℕ). w < made.wires)) (sym wires)
          (touched_below made.parts.items made.ports.items made.bits made.wires made.touched.zero made.touched.one (omega (arith, counted)) all.below
          (ports_below raw.buses raw.ports made.ports.items made.bits bits header));
      constants = omega (arith, counted);
      few_parts = let c = are.count in let few = is.few_instances in omega (arith, c, few);
      few_ports = few;
    }

module _ (joins : List Join) (wires : ℕ) (earliest : List ℕ) (are : AreEarliest joins wires earliest) where
  -- each wire that is listed has its earliest among the wires
  pub firsts_within : (touched : List ℕ) → All (λ (w : ℕ). w < wires) touched → All (λ (w : ℕ). get_or earliest w 0 < length earliest) touched
  firsts_within touched below k d lt =
      let less = below k d lt in
      let le = (are.each (get_or touched k d) less).none_before (get_or touched k d) (Same refl) in
      let c = are.count in
      omega (arith, less, le, c)

  pub leads_to : (touched : List ℕ) (used : List Bool) → AreMarks earliest touched used → LeadsToEarliest (record { earliest = earliest; used = used })
  leads_to touched used marked = leads joins wires (record { earliest = earliest; used = used }) are (marked.count ∙ are.count)

-- the draft has the nets of the wiring
module _ (raw : RawNetlist) (library : List Named) (scan : List ScanRow) (made : OnWires) (is : IsNetlistOnWires raw library scan made) (table : NetNumbers)
    (numbering : IsNumbering (joins_of made.bits raw.joins) made.wires made.touched.wires.items table) where
  abbrev numbered_so : IsNumbering (joins_of made.bits raw.joins) made.wires (touched_of made.parts.items made.ports.items made.bits made.touched.zero made.touched.one) table
  numbered_so = subst (λ (l : List ℕ). IsNumbering (joins_of made.bits raw.joins) made.wires l table) is.wires numbering

  abbrev within_so : All (λ (w : ℕ). w < made.wires) (touched_of made.parts.items made.ports.items made.bits made.touched.zero made.touched.one)
  within_so = subst (All (λ (w : ℕ). w < made.wires)) is.wires is.within

  -- the chip on nets
  abbrev pub drafted_chip : LinkedChip
  drafted_chip = chip_on library made.parts.items made.ports.items made.bits made.touched.zero made.touched.one table

  pub draft_link : IsLinkOf (wiring_of raw library scan) drafted_chip
  draft_link = subst (λ (w : Wiring). IsLinkOf w drafted_chip) is.is_wiring
      (link library scan made.parts.items made.ports.items made.bits (joins_of made.bits raw.joins) made.touched.zero made.touched.one is.zero_is is.one_is
      made.wires within_so table numbered_so is.kept)

  pub draft_drafted : made.wires < 2 ^ 32 → IsDrafted drafted_chip
  draft_drafted few_wires =
      drafted library scan made.parts.items made.ports.items made.bits (joins_of made.bits raw.joins) made.touched.zero made.touched.one is.zero_is is.one_is
      made.wires within_so table numbered_so is.kept is.few_parts is.few_ports few_wires

  -- each pin's wire has a number
  pub parts_within : All (λ (part : Part). All (λ (w : ℕ). w < length table.numbers) (pins_of part.body)) made.parts.items
  parts_within k d lt = λ j e less.
      let part = get_or made.parts.items k d in
      let has = in_all (λ (p : Part). pins_of p.body) made.parts.items k part (get_or (pins_of part.body) j e) (slice_get-get_or made.parts.items k d lt)
      (Contains-get_or (pins_of part.body) j e less) in
      below_numbers (get_or (pins_of part.body) j e)
      (Contains-append_left (flat_map (λ (p : Part). pins_of p.body) made.parts.items) (map (λ (port : PortBit). port.net) made.ports.items
      ++ (constant_wires made.bits made.touched.zero ++ constant_wires (made.bits + 1) made.touched.one)) (get_or (pins_of part.body) j e) has)
    where
      below_numbers : (m : ℕ) → Contains (touched_of made.parts.items made.ports.items made.bits made.touched.zero made.touched.one) m → m < length table.numbers
      below_numbers m has =
          let lt = All-contains (λ (w : ℕ). w < made.wires) (touched_of made.parts.items made.ports.items made.bits made.touched.zero made.touched.one) m within_so has in
          let room = numbering.numbered.room in
          omega (arith, lt, room)

  pub ports_within : All (λ (port : PortBit). port.net < length table.numbers) made.ports.items
  ports_within k d lt =
      let rest = after_all (λ (w : ℕ). w < made.wires) (flat_map (λ (p : Part). pins_of p.body) made.parts.items) (map (λ (port : PortBit). port.net) made.ports.items
      ++ (constant_wires made.bits made.touched.zero ++ constant_wires (made.bits + 1) made.touched.one)) within_so in
      let ports = front_all (λ (w : ℕ). w < made.wires) (map (λ (port : PortBit). port.net) made.ports.items) (constant_wires made.bits made.touched.zero
      ++ constant_wires (made.bits + 1) made.touched.one) rest in
      let here = map_all (λ (port : PortBit). port.net) (λ (w : ℕ). w < made.wires) made.ports.items ports k d lt in
      let room = numbering.numbered.room in
      omega (arith, here, room)

-- the chip that the draft is seen as
pub chip_is : (library : List Named) (made : OnWires) (table : NetNumbers) (seen : LinkedChip) (nets : ℕ) (zero_net one_net : Option ℕ) (parts : List Part) (ports : List PortBit)
    → seen ≡ record { cells = cells_of library; nets = nets; zero = zero_net; one = one_net; parts = parts; ports = ports; order = [] }
    → nets ≡ length table.nets
    → zero_net ≡ constant_number table.numbers made.touched.zero made.bits
    → one_net ≡ constant_number table.numbers made.touched.one (made.bits + 1)
    → parts ≡ map (numbered_part table.numbers) made.parts.items
    → ports ≡ map (numbered_port table.numbers) made.ports.items
    → seen ≡ chip_on library made.parts.items made.ports.items made.bits made.touched.zero made.touched.one table
chip_is library made table seen nets zero_net one_net parts ports is count zero_is one_is parts_are ports_are =
    is
    ∙ ap (λ (n : ℕ). let c : LinkedChip = record { cells = cells_of library; nets = n; zero = zero_net; one = one_net; parts = parts; ports = ports; order = [] } in c) count
    ∙ ap (λ (z : Option ℕ). let c : LinkedChip = record { cells = cells_of library; nets = length table.nets; zero = z; one = one_net; parts = parts; ports = ports; order = [] } in c) zero_is
    ∙ ap (λ (o : Option ℕ). let c : LinkedChip = record { cells = cells_of library; nets = length table.nets; zero = constant_number table.numbers made.touched.zero made.bits; one = o; parts = parts; ports = ports; order = [] } in c) one_is
    ∙ ap (λ (ps : List Part). let c : LinkedChip = record { cells = cells_of library; nets = length table.nets; zero = constant_number table.numbers made.touched.zero made.bits; one = constant_number table.numbers made.touched.one (made.bits + 1); parts = ps; ports = ports; order = [] } in c) parts_are
    ∙ ap (λ (qs : List PortBit). let c : LinkedChip = record { cells = cells_of library; nets = length table.nets; zero = constant_number table.numbers made.touched.zero made.bits; one = constant_number table.numbers made.touched.one (made.bits + 1); parts = map (numbered_part table.numbers) made.parts.items; ports = qs; order = [] } in c) ports_are
