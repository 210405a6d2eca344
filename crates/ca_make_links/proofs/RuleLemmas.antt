-- A generated chip keeps the rules of linking.
use Rattle.std.proofs.Common.{◌≡◌, ℕ, zero, suc, ◌+◌, ◌-◌, ◌*◌, ◌<◌, ◌≤◌, Bool, true, false, not, ◌&&◌, List}
use Rattle.std.proofs.Common.{[], ◌∷◌, ◌++◌, length, flat_map, nat_lt}
use Rattle.std.proofs.Common.{if◌then◌else◌, get_or, Some, None, Option, inl, inr, refl, sym, ap, ◌∙◌, subst}
use Rattle.std.proofs.Common.{arith}
use Rattle.std.specs.Prelude.{slice_get, IsSomeAnd, ⊤}
use Rattle.std.specs.List.{Contains, sum_by}
use Rattle.std.proofs.lemmas.Bool.{lt-ltb, ltb-true, ltb-false}
use Rattle.std.proofs.lemmas.List.{length-append}
use Rattle.std.proofs.lemmas.List.Elements.{Contains-append_cases}
use Rattle.std.proofs.lemmas.List.FromFn.{length-map-range_with_len}
use Rattle.std.proofs.lemmas.List.Sums.{sum_by-cons}
use Rattle.std.proofs.lemmas.Option.{slice_get_within, slice_get-get_or, get_or_from_slice_get}
use Rattle.ca_cell.specs.declared.raw.RawCell.{RawCell}
use Rattle.ca_verilog.specs.declared.raw.RawUse.{RawUse}
use Rattle.ca_verilog.specs.declared.raw.RawInstance.{RawInstance}
use Rattle.ca_linked.specs.declared.parts.Body.{Body}
use Rattle.ca_linked.specs.declared.parts.Body.TheVariants as body
use Rattle.ca_linked.specs.declared.parts.Part.{Part}
use Rattle.ca_linked.specs.declared.parts.PortBit.{PortBit}
use Rattle.ca_linked.specs.Linked.{LinkedChip, port_nets, q_nets, d_nets, inputs_of, outputs_of, is_scan_path}
use Rattle.ca_wiring.specs.declared.fault.ChipFault.{ChipFault}
use Rattle.ca_wiring.specs.declared.fault.ChipFault.TheVariants as fault
use Rattle.ca_wiring.specs.declared.joined.Join.{Join}
use Rattle.ca_wiring.specs.Joined.{AreJoined, Same, Across}
use Rattle.ca_wiring.proofs.ForestLemmas.{joined_trans}
use Rattle.ca_wiring.specs.Wiring as meanings
use Rattle.ca_wiring.specs.Wiring.{Meaning, HeaderBit, WiredPart, Wiring, meaning_of, out_bits}
use Rattle.ca_wiring.specs.Nets as nets
use Rattle.ca_wiring.specs.Nets.{Driving, Drives, DrivesWire, IsLoaded}
use Rattle.ca_wiring.specs.InstanceRules.{IsKnown, IsSound, HasStrayPin, LacksPin}
use Rattle.ca_wiring.specs.Linking.{IsLinkOf, HasMeaning}
use Rattle.ca_wiring.specs.Rules.{IsUndriven, IsScan, KeepsRules, IsCause, path_wires, library_count}
use Rattle.ca_wiring.specs.Rules.{defects_of}
use Rattle.ca_make.specs.declared.gate.Gate.{Gate}
use Rattle.ca_make.specs.declared.gate.Gate.TheVariants as gate
use Rattle.ca_make.specs.declared.gate.TheConstants.{INPUTS, MOST_GATES}
use Rattle.ca_make.specs.Chip.{gates_of}
use Rattle.ca_make_laws.proofs.ChipLemmas.{length_gates, are_spelled}
use Rattle.ca_make_laws.specs.Cells.{sound_library}
use Rattle.ca_make_laws.specs.ChipNetlist.{candidate_bit, wire_bit, each_from, gate_instance}
use Rattle.ca_make_laws.specs.ChipNetlist.{netlist_in_numbers, chip_netlist}
use Rattle.ca_make_laws.proofs.SpelledLemmas.{AreSpelled}
use Rattle.ca_make_links.proofs.PartLemmas.{given_at, raw_of_gate, chip_part, parts_are, gate_sound}
use Rattle.ca_make_links.proofs.JoinLemmas.{chip_join, chip_joins, joins_are}
use Rattle.ca_make_links.proofs.HeaderLemmas.{port_bit, header_is, mapped_at, mapped_only}
use Rattle.ca_make_links.proofs.LoopLemmas.{part_at, chip_gates, chip_outputs, gate_at, of_one, wire_of_gate}
use Rattle.ca_make_links.proofs.LoopLemmas.{never_returns}
use Rattle.ca_make_links.proofs.DriverLemmas.{of_flat, chip_wiring, count, joined_below, not_double}

-- what is given of an entry, at its place
gives_at : {X Y : Type 0} (give : ℕ → X → Y) (from : ℕ) (xs : List X) (k : ℕ) (x : X) → slice_get xs k ≡ Some x
    → slice_get (each_from give from xs) k ≡ Some (give (from + k) x)
gives_at give from [] k x at = absurd cc
gives_at give from (y ∷ xs) zero x at =
    let same : y ≡ x = cc in
    ap (λ z. Some (give from z)) same ∙ ap (λ n. Some (give n x)) (let e : from ≡ from + 0 = omega arith in e)
gives_at give from (y ∷ xs) (suc k) x at =
    gives_at give (from + 1) xs k x at ∙ ap (λ n. Some (give n x)) (let e : from + 1 + k ≡ from + suc k = omega arith in e)

contained : {T : Type 0} (xs : List T) (k : ℕ) (x : T) → slice_get xs k ≡ Some x → Contains xs x
contained xs k x at = (k, slice_get_within xs k x at, get_or_from_slice_get xs k x x at)

module _ (n : ℕ) (are : AreSpelled (chip_gates n) (chip_outputs n)) where
  abbrev wiring : Wiring
  wiring = chip_wiring n

  abbrev outs : ℕ
  outs = count n

  -- the wire of a gate is driven by its output
  wire_driven : (k wire : ℕ) → k < length (chip_gates n) → AreJoined wiring.joins (wire_bit outs k) wire
      → (driving : Driving) × Drives wiring wire driving
  wire_driven k wire lt joined =
      let it = get_or (chip_gates n) k (gate.Inv 0) in
      let at = slice_get-get_or (chip_gates n) k (gate.Inv 0) lt in
      let part : slice_get wiring.parts k ≡ Some (chip_part outs (0 + k) it) =
      ap (λ (list : List WiredPart). slice_get list k) (parts_are wiring.bits (wiring.bits + 2) outs 0 (chip_gates n))
      ∙ gives_at (chip_part outs) 0 (chip_gates n) k it at in (
        nets.OutputPin k 0,
        record {
          at = wire_bit outs k;
          drives = (chip_part outs (0 + k) it, part, ap (λ m. Some (wire_bit outs m)) (let e : 0 + k ≡ k = omega arith in e));
          joined = joined;
        },
      )

  -- and that of an input by its port
  input_driven : (p wire : ℕ) → p < INPUTS → AreJoined wiring.joins p wire → (driving : Driving) × Drives wiring wire driving
  input_driven p wire lt joined =
      let gates = length (chip_gates n) in
      let at : slice_get wiring.header p ≡ Some (port_bit outs gates p) =
      ap (λ (list : List HeaderBit). slice_get list p) (header_is outs gates)
      ∙ mapped_at (port_bit outs gates) 0 (INPUTS + outs) p (omega (arith, lt))
      ∙ ap (λ m. Some (port_bit outs gates m)) (let e : 0 + p ≡ p = omega arith in e) in (
        nets.PortBit p,
        record {
          at = p;
          drives = subst (λ (o : Option HeaderBit). IsSomeAnd o (λ port. (port.is_input ≡ true) × (port.wire ≡ p))) (sym at)
              (lt-ltb p INPUTS lt, refl);
          joined = joined;
        },
      )

  candidate_driven : (place wire : ℕ) → place < INPUTS + length (chip_gates n) → AreJoined wiring.joins (candidate_bit outs place) wire
      → (driving : Driving) × Drives wiring wire driving
  candidate_driven place wire lt = by (nat_lt place INPUTS) refl
    where
      by : (b : Bool) → nat_lt place INPUTS ≡ b → AreJoined wiring.joins (if b then place else outs + place) wire
          → (driving : Driving) × Drives wiring wire driving
      by true is joined = input_driven place wire (ltb-true place INPUTS is) joined
      by false is joined =
          let above = ltb-false place INPUTS is in
          wire_driven (place - INPUTS) wire (omega (arith, above, lt))
          (subst (λ m. AreJoined wiring.joins m wire) (let e : outs + place ≡ wire_bit outs (place - INPUTS) = omega (arith, above) in e) joined)

  input_load : (at wire : ℕ) → Contains (flat_map (λ (part : WiredPart). part.inputs) wiring.parts) at → AreJoined wiring.joins at wire
      → (driving : Driving) × Drives wiring wire driving
  input_load at wire has joined =
      let one = of_flat (λ (part : WiredPart). part.inputs) wiring.parts at has in
      let given = part_at n one.place one.entry one.at in
      let u_lt = slice_get_within (chip_gates n) one.place given.0 given.1 in
      let it = wire_of_gate outs (INPUTS + one.place) given.0 at (gate_at n one.place given.0 given.1)
      (subst (λ (part : WiredPart). Contains part.inputs at) given.2 one.has) in
      let earlier = it.earlier in
      candidate_driven it.place wire (omega (arith, earlier, u_lt)) (subst (λ m. AreJoined wiring.joins m wire) it.is joined)

  output_load : (at wire : ℕ) → Contains (out_bits wiring) at → AreJoined wiring.joins at wire
      → (driving : Driving) × Drives wiring wire driving
  output_load at wire has joined =
      let gates = length (chip_gates n) in
      let one = of_flat (λ (port : HeaderBit). if port.is_input then [] else port.wire ∷ []) wiring.header at has in
      let known = mapped_only (port_bit outs gates) 0 (INPUTS + outs) one.place one.entry
      (ap (λ (list : List HeaderBit). slice_get list one.place) (sym (header_is outs gates)) ∙ one.at) in
      by one.place known.0 (subst (λ (port : HeaderBit). Contains (if port.is_input then [] else port.wire ∷ []) at)
      (known.1 ∙ ap (port_bit outs gates) (let e : 0 + one.place ≡ one.place = omega arith in e)) one.has) (nat_lt one.place INPUTS) refl
    where
      by : (p : ℕ) → p < INPUTS + outs → Contains (if nat_lt p INPUTS then [] else p ∷ []) at → (b : Bool) → nat_lt p INPUTS ≡ b
          → (driving : Driving) × Drives wiring wire driving
      by p lt on true is =
          let none : Contains [] at = subst (λ (b : Bool). Contains (if b then [] else p ∷ []) at) is on in
          let below = none.1 in absurd (omega (arith, below))
      by p lt on false is =
          let only : Contains (p ∷ []) at = subst (λ (b : Bool). Contains (if b then [] else p ∷ []) at) is on in
          let above = ltb-false p INPUTS is in
          let same : at ≡ INPUTS + (0 + (p - INPUTS)) =
          of_one p at only ∙ (let e : p ≡ INPUTS + (0 + (p - INPUTS)) = omega (arith, above) in e) in
          let k = get_or (chip_outputs n) (p - INPUTS) 0 in
          let j_lt : p - INPUTS < outs = omega (arith, above, lt) in
          let there : slice_get (chip_outputs n) (p - INPUTS) ≡ Some k = slice_get-get_or (chip_outputs n) (p - INPUTS) 0 j_lt in
          let join : Contains wiring.joins (chip_join outs (0 + (p - INPUTS)) k) =
          subst (λ (list : List Join). Contains list (chip_join outs (0 + (p - INPUTS)) k)) (sym (joins_are wiring.bits outs 0 (chip_outputs n)))
          (contained (chip_joins (chip_outputs n)) (p - INPUTS) (chip_join outs (0 + (p - INPUTS)) k)
          (gives_at (chip_join outs) 0 (chip_outputs n) (p - INPUTS) k there)) in
          wire_driven k wire (joined_below n are (p - INPUTS) k there)
          (joined_trans wiring.joins (wire_bit outs k) at wire
          (Across (chip_join outs (0 + (p - INPUTS)) k) (wire_bit outs k) (Same refl) join (inr (refl, sym same)))
          joined)

  pub not_undriven : (net : ℕ) → IsUndriven wiring net → ⊥
  not_undriven net it =
      let driven : (driving : Driving) × Drives wiring it.wire driving =
      elim (Contains-append_cases (flat_map (λ (part : WiredPart). part.inputs) wiring.parts) (out_bits wiring) it.loaded.at it.loaded.load) [
        | inl on_input ↦ input_load it.loaded.at it.wire on_input it.loaded.joined
        | inr on_output ↦ output_load it.loaded.at it.wire on_output it.loaded.joined
      ] in
      it.driven_by_none driven.0 driven.1

  -- no instance is of a scan cell
  no_scan : (u : ℕ) (part : WiredPart) → slice_get wiring.parts u ≡ Some part → IsScan part.meaning → ⊥
  no_scan u part at scan = let given = part_at n u part at in subst (λ (p : WiredPart). IsScan p.meaning) given.2 scan

  no_path : (wire : ℕ) → Contains (flat_map path_wires wiring.parts) wire → ⊥
  no_path wire has =
      let one = of_flat path_wires wiring.parts wire has in
      let given = part_at n one.place one.entry one.at in
      let none = subst (λ (part : WiredPart). Contains (path_wires part) wire) given.2 one.has in
      let below = none.1 in absurd (omega (arith, below))

  -- a rule that no sound instance breaks is broken by none
  no_instance : (u : ℕ) (P : Meaning → List RawUse → Type 0) → ((meaning : Meaning) (uses : List RawUse) → IsSound meaning uses → P meaning uses → ⊥)
      → IsSomeAnd (slice_get (netlist_in_numbers (chip_gates n) (chip_outputs n)).instances u)
      (λ instance. P (meaning_of sound_library [] instance.cell) instance.pins) → ⊥
  no_instance u P unbroken broken = by (slice_get (netlist_in_numbers (chip_gates n) (chip_outputs n)).instances u) refl broken
    where
      by : (found : Option RawInstance) → slice_get (netlist_in_numbers (chip_gates n) (chip_outputs n)).instances u ≡ found
          → IsSomeAnd found (λ instance. P (meaning_of sound_library [] instance.cell) instance.pins) → ⊥
      by None at it = it
      by (Some instance) at it =
          let given = given_at (gate_instance outs) 0 (chip_gates n) u instance at in
          unbroken (meaning_of sound_library [] instance.cell) instance.pins
          (subst (λ (i : RawInstance). IsSound (meaning_of sound_library [] i.cell) i.pins) (sym given.is) (gate_sound outs (0 + u) given.entry)) it

  -- what is counted
  counted : (from : ℕ) (gates : List Gate) → library_count (each_from (chip_part outs) from gates) ≡ length gates
  counted from [] = refl
  counted from (it ∷ gates) =
      ap (λ m. 1 + m) (counted (from + 1) gates) ∙ (let e : 1 + length gates ≡ length (it ∷ gates) = omega arith in e)

  few_defects : (it : Gate) (k : ℕ) → defects_of (chip_part outs k it).meaning ≤ 64
  few_defects (gate.Inv a) k = omega arith
  few_defects (gate.Nand2 a b) k = omega arith
  few_defects (gate.Nor2 a b) k = omega arith

  defects_few : (from : ℕ) (gates : List Gate) → sum_by (λ (part : WiredPart). defects_of part.meaning) (each_from (chip_part outs) from gates) ≤ 64 * length gates
  defects_few from [] = omega arith
  defects_few from (it ∷ gates) =
      let sum = sum_by-cons (λ (part : WiredPart). defects_of part.meaning) (chip_part outs from it) (each_from (chip_part outs) (from + 1) gates) in
      let one = few_defects it from in
      let others = defects_few (from + 1) gates in
      omega (arith, sum, one, others)

  parts_same : wiring.parts ≡ each_from (chip_part outs) 0 (chip_gates n)
  parts_same = parts_are wiring.bits (wiring.bits + 2) outs 0 (chip_gates n)

-- the port bits of a direction
one_few : (b c : Bool) (net : ℕ) → length (if (if b then true else not true) && c then net ∷ [] else []) ≤ (if b then 1 else 0)
one_few true true net = omega arith
one_few true false net = omega arith
one_few false c net = omega arith

inputs_few : (chip : LinkedChip) (ports : List PortBit) (from : ℕ)
    → ((p : ℕ) (port : PortBit) → slice_get ports p ≡ Some port → port.is_input ≡ nat_lt (from + p) INPUTS)
    → length (flat_map (λ (port : PortBit). if (if port.is_input then true else not true) && not (is_scan_path chip port.net)
    then port.net ∷ [] else []) ports) ≤ INPUTS - from
inputs_few chip [] from are = omega arith
inputs_few chip (port ∷ ports) from are =
    let later = inputs_few chip ports (from + 1)
    (λ p other at. are (suc p) other at ∙ ap (λ m. nat_lt m INPUTS) (let e : from + suc p ≡ from + 1 + p = omega arith in e)) in
    let here = one_few port.is_input (not (is_scan_path chip port.net)) port.net in
    let both = length-append (if (if port.is_input then true else not true) && not (is_scan_path chip port.net) then port.net ∷ [] else [])
    (flat_map (λ (port : PortBit). if (if port.is_input then true else not true) && not (is_scan_path chip port.net)
    then port.net ∷ [] else []) ports) in
    let is = are 0 port refl ∙ ap (λ m. nat_lt m INPUTS) (let e : from + 0 ≡ from = omega arith in e) in
    by (nat_lt from INPUTS) refl (subst (λ (b : Bool). length (if (if port.is_input then true else not true) && not (is_scan_path chip port.net) then port.net ∷ [] else [])
    ≤ (if b then 1 else 0)) is here) later both
  where
    by : (b : Bool) → nat_lt from INPUTS ≡ b → length (if (if port.is_input then true else not true) && not (is_scan_path chip port.net) then port.net ∷ [] else [])
        ≤ (if nat_lt from INPUTS then 1 else 0)
        → length (flat_map (λ (port : PortBit). if (if port.is_input then true else not true) && not (is_scan_path chip port.net)
        then port.net ∷ [] else []) ports) ≤ INPUTS - (from + 1)
        → length (flat_map (λ (port : PortBit). if (if port.is_input then true else not true) && not (is_scan_path chip port.net)
        then port.net ∷ [] else []) (port ∷ ports))
        ≡ length (if (if port.is_input then true else not true) && not (is_scan_path chip port.net) then port.net ∷ [] else [])
        + length (flat_map (λ (port : PortBit). if (if port.is_input then true else not true) && not (is_scan_path chip port.net)
        then port.net ∷ [] else []) ports)
        → length (flat_map (λ (port : PortBit). if (if port.is_input then true else not true) && not (is_scan_path chip port.net)
        then port.net ∷ [] else []) (port ∷ ports)) ≤ INPUTS - from
    by true is one others sum =
        let lt = ltb-true from INPUTS is in
        let few = subst (λ (b : Bool). length (if (if port.is_input then true else not true) && not (is_scan_path chip port.net) then port.net ∷ [] else [])
        ≤ (if b then 1 else 0)) is one in
        omega (arith, lt, few, others, sum)
    by false is one others sum =
        let few = subst (λ (b : Bool). length (if (if port.is_input then true else not true) && not (is_scan_path chip port.net) then port.net ∷ [] else [])
        ≤ (if b then 1 else 0)) is one in
        omega (arith, few, others, sum)

single_few : (b : Bool) (net : ℕ) → length (if b then net ∷ [] else []) ≤ 1
single_few true net = omega arith
single_few false net = omega arith

ports_few : (chip : LinkedChip) (input : Bool) (ports : List PortBit)
    → length (flat_map (λ (port : PortBit). if (if port.is_input then input else not input) && not (is_scan_path chip port.net)
    then port.net ∷ [] else []) ports) ≤ length ports
ports_few chip input [] = omega arith
ports_few chip input (port ∷ ports) =
    let later = ports_few chip input ports in
    let here = single_few ((if port.is_input then input else not input) && not (is_scan_path chip port.net)) port.net in
    let both = length-append (if (if port.is_input then input else not input) && not (is_scan_path chip port.net) then port.net ∷ [] else [])
    (flat_map (λ (port : PortBit). if (if port.is_input then input else not input) && not (is_scan_path chip port.net)
    then port.net ∷ [] else []) ports) in
    omega (arith, later, here, both)

-- an instance of a library cell has no scan nets
abbrev pub IsGateBody : Body → Type 0
IsGateBody (body.Gate cell inputs outputs) = ⊤
IsGateBody (body.Scan pins) = ⊥

gate_body : (cells : List RawCell) (raw : RawCell) (it : Body) → HasMeaning cells (meanings.Library raw) it → IsGateBody it
gate_body cells raw (body.Gate cell inputs outputs) means = tt
gate_body cells raw (body.Scan pins) means = means

none_scan : (give : Body → List ℕ) → ((it : Body) → IsGateBody it → give it ≡ []) → (parts : List Part)
    → ((u : ℕ) (part : Part) → slice_get parts u ≡ Some part → IsGateBody part.body) → flat_map (λ (part : Part). give part.body) parts ≡ []
none_scan give none [] are = refl
none_scan give none (part ∷ parts) are =
    ap (λ (list : List ℕ). list ++ flat_map (λ (part : Part). give part.body) parts) (none part.body (are 0 part refl))
    ∙ none_scan give none parts (λ u other at. are (suc u) other at)

no_q : (it : Body) → IsGateBody it → q_nets it ≡ []
no_q (body.Gate cell inputs outputs) is = refl
no_q (body.Scan pins) is = absurd is

no_d : (it : Body) → IsGateBody it → d_nets it ≡ []
no_d (body.Gate cell inputs outputs) is = refl
no_d (body.Scan pins) is = absurd is

module _ (n : ℕ) (are : AreSpelled (chip_gates n) (chip_outputs n)) (chip : LinkedChip) (link : IsLinkOf (chip_wiring n) chip) where
  pub bodies : (u : ℕ) (part : Part) → slice_get chip.parts u ≡ Some part → IsGateBody part.body
  bodies u part at =
      let lt = slice_get_within chip.parts u part at in
      let same = link.same_parts in
      let other = chip_part (count n) 0 (gate.Inv 0) in
      let wired = get_or (chip_wiring n).parts u other in
      let there : slice_get (chip_wiring n).parts u ≡ Some wired = slice_get-get_or (chip_wiring n).parts u other (omega (arith, lt, same)) in
      let given = part_at n u wired there in
      let it = link.parts u wired part there at in
      gate_body chip.cells (raw_of_gate given.0) part.body
      (subst (λ (w : WiredPart). HasMeaning chip.cells w.meaning part.body) given.2 it.meaning)

  port_at : (p : ℕ) (port : PortBit) → slice_get chip.ports p ≡ Some port → port.is_input ≡ nat_lt (0 + p) INPUTS
  port_at p port at =
      let gates = length (chip_gates n) in
      let lt = slice_get_within chip.ports p port at in
      let same = link.same_ports in
      let long = ap length (header_is (count n) gates) ∙ length-map-range_with_len (port_bit (count n) gates) 0 (INPUTS + count n) in
      let there : slice_get (chip_wiring n).header p ≡ Some (port_bit (count n) gates (0 + p)) =
      ap (λ (list : List HeaderBit). slice_get list p) (header_is (count n) gates)
      ∙ mapped_at (port_bit (count n) gates) 0 (INPUTS + count n) p (omega (arith, lt, same, long)) in
      (link.ports p (port_bit (count n) gates (0 + p)) port there at).is_input

  inputs_within : length (inputs_of chip) ≤ INPUTS
  inputs_within =
      let few = inputs_few chip chip.ports 0 port_at in
      let none = ap length (none_scan q_nets no_q chip.parts bodies) in
      let both = length-append (port_nets chip true) (flat_map (λ (part : Part). q_nets part.body) chip.parts) in
      omega (arith, few, none, both)

  outputs_within : length (outputs_of chip) ≤ INPUTS + count n
  outputs_within =
      let gates = length (chip_gates n) in
      let few = ports_few chip false chip.ports in
      let same = link.same_ports in
      let long = ap length (header_is (count n) gates) ∙ length-map-range_with_len (port_bit (count n) gates) 0 (INPUTS + count n) in
      let none = ap length (none_scan d_nets no_d chip.parts bodies) in
      let both = length-append (port_nets chip false) (flat_map (λ (part : Part). d_nets part.body) chip.parts) in
      omega (arith, few, same, long, none, both)

-- so no rule is broken
pub rules_kept : (n : ℕ) → AreSpelled (chip_gates n) (chip_outputs n) → length (chip_gates n) ≤ MOST_GATES
    → KeepsRules (netlist_in_numbers (chip_gates n) (chip_outputs n)) sound_library []
rules_kept n are few at (fault.UnknownCell u) broken =
    no_instance n are u.0 (λ meaning uses. meaning ≡ meanings.Unknown)
    (λ meaning uses sound is. subst IsKnown is sound.known) broken.1
rules_kept n are few at (fault.Cell u rule) broken =
    no_instance n are u.0 (λ meaning uses. meaning ≡ meanings.Broken rule)
    (λ meaning uses sound is. subst IsKnown is sound.known) broken.1
rules_kept n are few at (fault.UnknownPin u pin) broken =
    no_instance n are u.0 (λ meaning uses. HasStrayPin meaning uses broken.0 pin)
    (λ meaning uses sound stray. sound.no_stray broken.0 pin stray) broken.2
rules_kept n are few at (fault.MissingPin u pin) broken =
    no_instance n are u.0 (λ meaning uses. LacksPin meaning uses broken.0 pin)
    (λ meaning uses sound lacks. sound.no_open broken.0 pin lacks) broken.2
rules_kept n are few at (fault.DoubleDriven net first second) broken = not_double n are net.0 first second broken.1
rules_kept n are few at (fault.Undriven net) broken = not_undriven n are net.0 broken.1
rules_kept n are few at (fault.ControlPin u pin) broken =
    no_scan n are u.0 broken.2.control.part broken.2.control.is_part broken.2.control.scan
rules_kept n are few at (fault.QnUsed u) broken = no_scan n are u.0 broken.1.part broken.1.is_part broken.1.scan
rules_kept n are few at (fault.ControlObserved net) broken = no_path n are broken.1.path.0 broken.1.path.1
rules_kept n are few at (fault.Loop []) broken = broken.1
rules_kept n are few at (fault.Loop (u ∷ more)) broken = never_returns n u more broken.1.0
rules_kept n are few at (fault.TooManyInstances many) broken =
    let is = broken.1 in let over = broken.2 in
    let same = ap library_count (parts_same n are) ∙ counted n are 0 (chip_gates n) in
    absurd (omega (arith, is, over, same, few))
rules_kept n are few at (fault.TooManyInputs many) broken =
    let it = broken.1 in let is = it.2 in let over = it.3 in
    let within = inputs_within n are it.0 it.1 in
    absurd (omega (arith, is, over, within))
rules_kept n are few at (fault.TooManyOutputs many) broken =
    let it = broken.1 in let is = it.2 in let over = it.3 in
    let within = outputs_within n are it.0 it.1 in
    let fewer = are.few_outputs in
    absurd (omega (arith, is, over, within, fewer, few))
rules_kept n are few at (fault.TooManyDefects many) broken =
    let is = broken.1 in let over = broken.2 in
    let same = ap (sum_by (λ (part : WiredPart). defects_of part.meaning)) (parts_same n are) in
    let within = defects_few n are 0 (chip_gates n) in
    absurd (omega (arith, is, over, same, within, few))
rules_kept n are few at fault.NoMemory broken = broken

pub chip_rules_kept : (n : ℕ) → n ≤ MOST_GATES → KeepsRules (chip_netlist n) sound_library []
unfolding gates_of
chip_rules_kept n le =
    let long = length_gates n INPUTS n in
    rules_kept n (are_spelled n le) (omega (arith, long, le))

-- so linking is refused only when out of memory
pub memory_alone : (n : ℕ) → n ≤ MOST_GATES → (reported : ChipFault) → IsCause (chip_netlist n) sound_library [] reported → reported ≡ fault.NoMemory
memory_alone n le (fault.UnknownCell u) it = absurd (chip_rules_kept n le it.at (fault.UnknownCell u) it.breaks)
memory_alone n le (fault.Cell u rule) it = absurd (chip_rules_kept n le it.at (fault.Cell u rule) it.breaks)
memory_alone n le (fault.UnknownPin u pin) it = absurd (chip_rules_kept n le it.at (fault.UnknownPin u pin) it.breaks)
memory_alone n le (fault.MissingPin u pin) it = absurd (chip_rules_kept n le it.at (fault.MissingPin u pin) it.breaks)
memory_alone n le (fault.DoubleDriven net first second) it = absurd (chip_rules_kept n le it.at (fault.DoubleDriven net first second) it.breaks)
memory_alone n le (fault.Undriven net) it = absurd (chip_rules_kept n le it.at (fault.Undriven net) it.breaks)
memory_alone n le (fault.ControlPin u pin) it = absurd (chip_rules_kept n le it.at (fault.ControlPin u pin) it.breaks)
memory_alone n le (fault.ControlObserved net) it = absurd (chip_rules_kept n le it.at (fault.ControlObserved net) it.breaks)
memory_alone n le (fault.QnUsed u) it = absurd (chip_rules_kept n le it.at (fault.QnUsed u) it.breaks)
memory_alone n le (fault.Loop instances) it = absurd (chip_rules_kept n le it.0.at (fault.Loop instances) it.0.breaks)
memory_alone n le (fault.TooManyInstances many) it = absurd (chip_rules_kept n le it.at (fault.TooManyInstances many) it.breaks)
memory_alone n le (fault.TooManyInputs many) it = absurd (chip_rules_kept n le it.at (fault.TooManyInputs many) it.breaks)
memory_alone n le (fault.TooManyOutputs many) it = absurd (chip_rules_kept n le it.at (fault.TooManyOutputs many) it.breaks)
memory_alone n le (fault.TooManyDefects many) it = absurd (chip_rules_kept n le it.at (fault.TooManyDefects many) it.breaks)
memory_alone n le fault.NoMemory it = refl
