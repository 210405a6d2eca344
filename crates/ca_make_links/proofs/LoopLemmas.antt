-- A gate of a generated chip feeds only later ones.
use Rattle.std.proofs.Common.{◌≡◌, ℕ, zero, suc, ◌+◌, ◌<◌, Bool, true, false, List, [], ◌∷◌, length, nat_lt}
use Rattle.std.proofs.Common.{if◌then◌else◌}
use Rattle.std.proofs.Common.{Some, ◌⊎◌, inl, inr, refl, sym, ap, ◌∙◌, subst, arith}
use Rattle.std.specs.Prelude.{slice_get}
use Rattle.std.specs.List.{Contains}
use Rattle.std.proofs.lemmas.Bool.{ltb-true}
use Rattle.ca_linked.specs.Order.{IsChain, HasNoLoop}
use Rattle.ca_wiring.specs.declared.joined.Join.{Join}
use Rattle.ca_wiring.specs.Joined.{AreJoined}
use Rattle.ca_wiring.specs.Wiring.{WiredPart, wiring_of}
use Rattle.ca_wiring.specs.Nets.{FeedsWire}
use Rattle.ca_verilog.specs.IsNetlist.{bit_count}
use Rattle.ca_make.specs.declared.gate.Gate.{Gate}
use Rattle.ca_make.specs.declared.gate.Gate.TheVariants as gate
use Rattle.ca_make.specs.declared.gate.TheConstants.{INPUTS}
use Rattle.ca_make.specs.Draw.{gate_from, state_after, gates_from}
use Rattle.ca_make.specs.Chip.{gates_of, unloaded}
use Rattle.ca_make.specs.code.Chip.{IsWithin}
use Rattle.ca_make_laws.specs.Cells.{sound_library}
use Rattle.ca_make_laws.specs.ChipNetlist.{candidate_bit, wire_bit, netlist_in_numbers}
use Rattle.ca_make_laws.proofs.ChipLemmas.{gate_within}
use Rattle.ca_make_links.proofs.PartLemmas.{given_at, gate_wires, chip_part, parts_are}
use Rattle.ca_make_links.proofs.JoinLemmas.{joins_are, known_as, known_wire, known_candidate, joined_known}

-- the gate at a place takes candidates before its own
drawn_within : (state candidates count u : ℕ) (it : Gate) → 0 < candidates → slice_get (gates_from state candidates count) u ≡ Some it
    → IsWithin (candidates + u) it
drawn_within state candidates zero u it some at = absurd cc
drawn_within state candidates (suc count) zero it some at =
    let same : gate_from state candidates ≡ it = cc in
    subst (λ n. IsWithin n it) (let e : candidates ≡ candidates + 0 = omega arith in e)
    (subst (IsWithin candidates) same (gate_within state candidates some))
drawn_within state candidates (suc count) (suc u) it some at =
    subst (λ n. IsWithin n it) (let e : candidates + 1 + u ≡ candidates + suc u = omega arith in e)
    (drawn_within (state_after (gate_from state candidates) state) (candidates + 1) count u it (omega arith) at)

pub gate_at : (n u : ℕ) (it : Gate) → slice_get (gates_of n) u ≡ Some it → IsWithin (INPUTS + u) it
unfolding gates_of
gate_at n u it at = drawn_within n INPUTS n u it (omega arith) at

-- what a list of one or two has
pub of_one : {T : Type 0} (x y : T) → Contains (x ∷ []) y → y ≡ x
of_one x y (zero, lt, is) = sym is
of_one x y (suc k, lt, is) = absurd (omega (arith, lt))

pub of_two : {T : Type 0} (x y z : T) → Contains (x ∷ y ∷ []) z → (z ≡ x) ⊎ (z ≡ y)
of_two x y z (zero, lt, is) = inl (sym is)
of_two x y z (suc zero, lt, is) = inr (sym is)
of_two x y z (suc (suc k), lt, is) = absurd (omega (arith, lt))

-- a wire of an input pin is that of a candidate before the gate's own
pub record IsEarlierWire (outputs before wire : ℕ) : Type 0 where
  pub place : ℕ
  pub is : wire ≡ candidate_bit outputs place
  pub earlier : place < before

pub wire_of_gate : (outputs before : ℕ) (it : Gate) (wire : ℕ) → IsWithin before it → Contains (gate_wires outputs it) wire
    → IsEarlierWire outputs before wire
wire_of_gate outputs before (gate.Inv a) wire within has =
    record { place = a; is = of_one (candidate_bit outputs a) wire has; earlier = within }
wire_of_gate outputs before (gate.Nand2 a b) wire within has = elim (of_two (candidate_bit outputs a) (candidate_bit outputs b) wire has) [
  | inl is ↦ record { place = a; is = is; earlier = within.0 }
  | inr is ↦ record { place = b; is = is; earlier = within.1 }
]
wire_of_gate outputs before (gate.Nor2 a b) wire within has = elim (of_two (candidate_bit outputs a) (candidate_bit outputs b) wire has) [
  | inl is ↦ record { place = a; is = is; earlier = within.0 }
  | inr is ↦ record { place = b; is = is; earlier = within.1 }
]

-- a candidate on the wire of a gate is that gate's
pub candidate_of_wire : (outputs w place : ℕ) → wire_bit outputs w ≡ candidate_bit outputs place → place ≡ INPUTS + w
candidate_of_wire outputs w place = by (nat_lt place INPUTS) refl
  where
    by : (b : Bool) → nat_lt place INPUTS ≡ b → wire_bit outputs w ≡ (if b then place else outputs + place) → place ≡ INPUTS + w
    by true is same = absurd (let below = ltb-true place INPUTS is in omega (arith, below, same))
    by false is same = omega (arith, same)

module _ (n : ℕ) where
  abbrev pub chip_gates : List Gate
  chip_gates = gates_of n

  abbrev pub chip_outputs : List ℕ
  chip_outputs = unloaded (gates_of n)

  abbrev pub bits : ℕ
  bits = bit_count (netlist_in_numbers chip_gates chip_outputs).buses

  -- the instance at a place is that of its gate
  pub part_at : (u : ℕ) (part : WiredPart)
      → slice_get (wiring_of (netlist_in_numbers chip_gates chip_outputs) sound_library []).parts u ≡ Some part
      → (it : Gate) × (slice_get chip_gates u ≡ Some it) × (part ≡ chip_part (length chip_outputs) (0 + u) it)
  part_at u part at =
      let given = given_at (chip_part (length chip_outputs)) 0 chip_gates u part
      (ap (λ (list : List WiredPart). slice_get list u) (sym (parts_are bits (bits + 2) (length chip_outputs) 0 chip_gates)) ∙ at) in
      (given.entry, given.at, given.is)

  -- wires that are joined are known as one
  pub known_same : (a b : ℕ) → AreJoined (wiring_of (netlist_in_numbers chip_gates chip_outputs) sound_library []).joins a b
      → known_as chip_outputs a ≡ known_as chip_outputs b
  known_same a b joined =
      joined_known chip_outputs (subst (λ (list : List Join). AreJoined list a b) (joins_are bits (length chip_outputs) 0 chip_outputs) joined)

  feeds_later : (w u : ℕ) → FeedsWire (wiring_of (netlist_in_numbers chip_gates chip_outputs) sound_library []) w u → w < u
  feeds_later w u feeds =
      let driver = part_at w feeds.driver feeds.is_driver in
      let reader = part_at u feeds.reader feeds.is_reader in
      let from : feeds.from ≡ wire_bit (length chip_outputs) (0 + w) =
      of_one (wire_bit (length chip_outputs) (0 + w)) feeds.from
      (subst (λ (part : WiredPart). Contains part.outputs feeds.from) driver.2 feeds.driven) in
      let to : IsEarlierWire (length chip_outputs) (INPUTS + u) feeds.to =
      wire_of_gate (length chip_outputs) (INPUTS + u) reader.0 feeds.to (gate_at n u reader.0 reader.1)
      (subst (λ (part : WiredPart). Contains part.inputs feeds.to) reader.2 feeds.read) in
      let place = candidate_of_wire (length chip_outputs) (0 + w) to.place
      (sym (ap (known_as chip_outputs) from ∙ known_wire chip_outputs (wire_bit (length chip_outputs) (0 + w)) (omega arith))
      ∙ known_same feeds.from feeds.to feeds.joined
      ∙ ap (known_as chip_outputs) to.is ∙ known_candidate chip_outputs to.place) in
      let earlier = to.earlier in
      omega (arith, place, earlier)

  chain_rises : (u : ℕ) (more : List ℕ) (to : ℕ)
      → IsChain (FeedsWire (wiring_of (netlist_in_numbers chip_gates chip_outputs) sound_library [])) u more to → u < to
  chain_rises u [] to feeds = feeds_later u to feeds
  chain_rises u (w ∷ more) to chain =
      let one = feeds_later u w chain.0 in
      let others = chain_rises w more to chain.1 in
      omega (arith, one, others)

  pub never_returns : HasNoLoop (FeedsWire (wiring_of (netlist_in_numbers chip_gates chip_outputs) sound_library []))
  never_returns u more chain = absurd (let lt = chain_rises u more u chain in omega (arith, lt))
