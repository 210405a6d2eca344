-- What drives the nets of a generated chip.
use Rattle.std.proofs.Common.{◌≡◌, ℕ, zero, suc, ◌+◌, ◌<◌, Bool, true, false, List, [], ◌∷◌, ◌++◌, length}
use Rattle.std.proofs.Common.{flat_map, nat_lt, if◌then◌else◌}
use Rattle.std.proofs.Common.{Some, None, Option, inl, inr, refl, sym, ap, ◌∙◌, subst, arith}
use Rattle.std.specs.Prelude.{slice_get, IsSomeAnd, IsTrue}
use Rattle.std.specs.List.{Contains}
use Rattle.std.proofs.lemmas.Bool.{ltb-true}
use Rattle.std.proofs.lemmas.List.Elements.{Contains-append_cases}
use Rattle.std.proofs.lemmas.Option.{slice_get_within, get_or_from_slice_get}
use Rattle.ca_wiring.specs.declared.joined.Join.{Join}
use Rattle.ca_wiring.specs.Wiring.{HeaderBit, WiredPart, Wiring, wiring_of}
use Rattle.ca_wiring.specs.Nets.{Driving, PortBit, ConstantBit, OutputPin, DrivesWire, ComesBefore, IsNamed}
use Rattle.ca_wiring.specs.Nets.{constant_wire}
use Rattle.ca_wiring.specs.Rules.{IsDoubleDriven}
use Rattle.ca_wiring.specs.declared.fault.Driver.{Driver}
use Rattle.ca_make.specs.declared.gate.TheConstants.{INPUTS}
use Rattle.ca_make_laws.specs.Cells.{sound_library}
use Rattle.ca_make_laws.specs.ChipNetlist.{candidate_bit, wire_bit, netlist_in_numbers}
use Rattle.ca_make_laws.proofs.SpelledLemmas.{AreSpelled}
use Rattle.ca_make_links.proofs.PartLemmas.{given_at, gate_wires}
use Rattle.ca_make_links.proofs.JoinLemmas.{chip_join, chip_joins, joins_are, known_as, known_input}
use Rattle.ca_make_links.proofs.JoinLemmas.{known_wire}
use Rattle.ca_make_links.proofs.HeaderLemmas.{port_bit, header_is, mapped_only, bits_are}
use Rattle.ca_make_links.proofs.LoopLemmas.{part_at, known_same, chip_gates, chip_outputs, gate_at, of_one}
use Rattle.ca_make_links.proofs.LoopLemmas.{of_two, wire_of_gate}

-- an entry of lists one after another is of one of them
pub record IsOfOne {S T : Type 0} (f : S → List T) (xs : List S) (y : T) : Type 0 where
  pub place : ℕ
  pub entry : S
  pub at : slice_get xs place ≡ Some entry
  pub has : Contains (f entry) y

pub of_flat : {S T : Type 0} (f : S → List T) (xs : List S) (y : T) → Contains (flat_map f xs) y → IsOfOne f xs y
of_flat f [] y (k, lt, is) = absurd (omega (arith, lt))
of_flat f (x ∷ xs) y has = elim (Contains-append_cases (f x) (flat_map f xs) y has) [
  | inl here ↦ record { place = 0; entry = x; at = refl; has = here }
  | inr later ↦ let it = of_flat f xs y later in record { place = suc it.place; entry = it.entry; at = it.at; has = it.has }
]

module _ (n : ℕ) where
  abbrev pub chip_wiring : Wiring
  chip_wiring = wiring_of (netlist_in_numbers (chip_gates n) (chip_outputs n)) sound_library []

  abbrev pub count : ℕ
  count = length (chip_outputs n)

  -- where a wire is driven: a port bit at its own number, an output pin at the wire of its gate
  abbrev pub IsDrivenAt : Driving → ℕ → Type 0
  IsDrivenAt (PortBit p) wire = (wire ≡ p) × (p < INPUTS)
  IsDrivenAt (ConstantBit value) wire = ⊥
  IsDrivenAt (OutputPin u pin) wire = (wire ≡ wire_bit count u) × (pin ≡ 0)

  header_at : (p : ℕ) (port : HeaderBit) → slice_get chip_wiring.header p ≡ Some port → port ≡ port_bit count (length (chip_gates n)) (0 + p)
  header_at p port at =
      (mapped_only (port_bit count (length (chip_gates n))) 0 (INPUTS + count) p port
      (ap (λ (list : List HeaderBit). slice_get list p) (sym (header_is count (length (chip_gates n)))) ∙ at)).1

  port_driven : (p wire : ℕ) (found : Option HeaderBit) → slice_get chip_wiring.header p ≡ found
      → IsSomeAnd found (λ port. IsTrue port.is_input × (port.wire ≡ wire)) → (wire ≡ p) × (p < INPUTS)
  port_driven p wire None at drives = absurd drives
  port_driven p wire (Some port) at drives =
      let is = header_at p port at in (
        sym drives.1 ∙ ap (λ (b : HeaderBit). b.wire) is ∙ (let e : 0 + p ≡ p = omega arith in e),
        let lt = ltb-true (0 + p) INPUTS (ap (λ (b : HeaderBit). b.is_input) (sym is) ∙ drives.0) in omega (arith, lt),
      )

  one_pin : (x wire pin : ℕ) → slice_get (x ∷ []) pin ≡ Some wire → (wire ≡ x) × (pin ≡ 0)
  one_pin x wire zero at = ((let same : x ≡ wire = cc in sym same), refl)
  one_pin x wire (suc pin) at = absurd cc

  pin_driven : (u pin wire : ℕ) (part : WiredPart) → slice_get chip_wiring.parts u ≡ Some part → slice_get part.outputs pin ≡ Some wire
      → (wire ≡ wire_bit count u) × (pin ≡ 0)
  pin_driven u pin wire part at out =
      let given = part_at n u part at in
      let one = one_pin (wire_bit count (0 + u)) wire pin
      (ap (λ (p : WiredPart). slice_get p.outputs pin) (sym given.2) ∙ out) in
      (one.0 ∙ (let e : wire_bit count (0 + u) ≡ wire_bit count u = omega arith in e), one.1)

  candidate_below : (gates place : ℕ) → place < INPUTS + gates → candidate_bit count place < INPUTS + (count + gates)
  candidate_below gates place lt = by (nat_lt place INPUTS) refl
    where
      by : (b : Bool) → nat_lt place INPUTS ≡ b → (if b then place else count + place) < INPUTS + (count + gates)
      by true is = let below = ltb-true place INPUTS is in omega (arith, below)
      by false is = omega (arith, lt)

module _ (n : ℕ) (are : AreSpelled (chip_gates n) (chip_outputs n)) where
  abbrev wiring : Wiring
  wiring = chip_wiring n

  abbrev outs : ℕ
  outs = count n

  abbrev gates : ℕ
  gates = length (chip_gates n)

  -- a chip output is joined to a gate that is there
  pub joined_below : (j k : ℕ) → slice_get (chip_outputs n) j ≡ Some k → k < gates
  joined_below j k at =
      let lt = slice_get_within (chip_outputs n) j k at in
      let same = get_or_from_slice_get (chip_outputs n) j k k at in
      subst (λ m. m < gates) same (are.driven j k lt)

  -- the wires that are named are declared bits
  part_wire_below : (wire : ℕ) → Contains (flat_map (λ (part : WiredPart). part.inputs ++ part.outputs) wiring.parts) wire
      → wire < INPUTS + (outs + gates)
  part_wire_below wire has =
      let one = of_flat (λ (part : WiredPart). part.inputs ++ part.outputs) wiring.parts wire has in
      let given = part_at n one.place one.entry one.at in
      let u_lt = slice_get_within (chip_gates n) one.place given.0 given.1 in
      elim (Contains-append_cases (gate_wires outs given.0) (wire_bit outs (0 + one.place) ∷ []) wire
      (subst (λ (part : WiredPart). Contains (part.inputs ++ part.outputs) wire) given.2 one.has)) [
        | inl on_input ↦
            let it = wire_of_gate outs (INPUTS + one.place) given.0 wire (gate_at n one.place given.0 given.1) on_input in
            let earlier = it.earlier in
            subst (λ w. w < INPUTS + (outs + gates)) (sym it.is)
            (candidate_below n gates it.place (omega (arith, earlier, u_lt)))
        | inr on_output ↦
            let is = of_one (wire_bit outs (0 + one.place)) wire on_output in omega (arith, is, u_lt)
      ]

  join_wire_below : (wire : ℕ) → Contains (flat_map (λ (join : Join). join.left ∷ join.right ∷ []) wiring.joins) wire
      → wire < INPUTS + (outs + gates)
  join_wire_below wire has =
      let one = of_flat (λ (join : Join). join.left ∷ join.right ∷ []) (chip_joins (chip_outputs n)) wire
      (subst (λ (list : List Join). Contains (flat_map (λ (join : Join). join.left ∷ join.right ∷ []) list) wire)
      (joins_are wiring.bits outs 0 (chip_outputs n)) has) in
      let given = given_at (chip_join outs) 0 (chip_outputs n) one.place one.entry one.at in
      let j_lt = slice_get_within (chip_outputs n) one.place given.entry given.at in
      let k_lt = joined_below one.place given.entry given.at in
      elim (of_two one.entry.left one.entry.right wire one.has) [
        | inl left ↦
            let is = left ∙ ap (λ (join : Join). join.left) given.is in omega (arith, is, j_lt)
        | inr right ↦
            let is = right ∙ ap (λ (join : Join). join.right) given.is in omega (arith, is, k_lt)
      ]

  no_constant : (value : Bool) (wire : ℕ) → constant_wire wiring value ≡ wire → IsNamed wiring wire → ⊥
  no_constant value wire is named =
      let bits = bits_are outs gates in
      let below : wire < INPUTS + (outs + gates) = elim named.named [
        | inl on_part ↦ part_wire_below wire on_part
        | inr on_join ↦ join_wire_below wire on_join
      ] in
      by value is below bits
    where
      by : (b : Bool) → constant_wire wiring b ≡ wire → wire < INPUTS + (outs + gates) → wiring.bits ≡ INPUTS + (outs + gates) → ⊥
      by false same below bits = absurd (omega (arith, same, below, bits))
      by true same below bits = absurd (omega (arith, same, below, bits))

  driven_at : (driving : Driving) (wire : ℕ) → DrivesWire wiring driving wire → IsDrivenAt n driving wire
  driven_at (PortBit p) wire drives = port_driven n p wire (slice_get wiring.header p) refl drives
  driven_at (ConstantBit value) wire drives = no_constant value wire drives.0 drives.1
  driven_at (OutputPin u pin) wire drives = pin_driven n u pin wire drives.0 drives.1 drives.2

  -- a wire that is driven is known as itself
  known_driven : (driving : Driving) (wire : ℕ) → IsDrivenAt n driving wire → known_as (chip_outputs n) wire ≡ wire
  known_driven (PortBit p) wire it = known_input (chip_outputs n) wire (let is = it.0 in let lt = it.1 in omega (arith, is, lt))
  known_driven (ConstantBit value) wire it = absurd it
  known_driven (OutputPin u pin) wire it = known_wire (chip_outputs n) wire (let is = it.0 in omega (arith, is))

  clash : (one two : Driving) (wire : ℕ) → IsDrivenAt n one wire → IsDrivenAt n two wire → ComesBefore one two → ⊥
  clash (PortBit p) (PortBit q) wire first second before =
      let a = first.0 in let b = second.0 in absurd (omega (arith, a, b, before))
  clash (PortBit p) (ConstantBit b) wire first second before = second
  clash (PortBit p) (OutputPin u pin) wire first second before =
      let a = first.0 in let lt = first.1 in let b = second.0 in absurd (omega (arith, a, lt, b))
  clash (ConstantBit a) two wire first second before = first
  clash (OutputPin u pin) (PortBit q) wire first second before = before
  clash (OutputPin u pin) (ConstantBit b) wire first second before = before
  clash (OutputPin u pin) (OutputPin w other) wire first second before =
      let a = first.0 in let b = second.0 in let c = first.1 in let d = second.1 in
      elim before [ inl lt ↦ absurd (omega (arith, a, b, lt)) | inr same ↦ (let lt = same.1 in absurd (omega (arith, c, d, lt))) ]

  pub not_double : (net : ℕ) (first second : Driver) → IsDoubleDriven wiring net first second → ⊥
  not_double net first second it =
      let one = driven_at it.one it.drives_one.at it.drives_one.drives in
      let two = driven_at it.two it.drives_two.at it.drives_two.drives in
      let same : it.drives_one.at ≡ it.drives_two.at =
      sym (known_driven it.one it.drives_one.at one)
      ∙ known_same n it.drives_one.at it.wire it.drives_one.joined
      ∙ sym (known_same n it.drives_two.at it.wire it.drives_two.joined)
      ∙ known_driven it.two it.drives_two.at two in
      clash it.one it.two it.drives_two.at (subst (IsDrivenAt n it.one) same one) two it.in_order
