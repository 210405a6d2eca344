-- The wires that nets stand on are those of declared bits and of constants.
use Rattle.std.proofs.Common.{◌≡◌, ℕ, zero, suc, ◌+◌, ◌<◌, List, Bool, true, false, length}
use Rattle.std.proofs.Common.{map, inl, inr, refl, sym, subst, arith, get_or}
use Rattle.std.specs.Prelude.{Option, Some, None, slice_get}
use Rattle.std.specs.List.{All, Contains, flat_map, list_any}
use Rattle.std.proofs.lemmas.List.Elements.{Contains-append_cases, Contains-get_or}
use Rattle.std.proofs.lemmas.Option.{slice_get_within, get_or_from_slice_get}
use Rattle.ca_verilog.specs.declared.raw.RawBit.{RawBit}
use Rattle.ca_verilog.specs.declared.raw.RawBit.TheVariants.{Bit, Constant}
use Rattle.ca_verilog.specs.declared.raw.RawUse.{RawUse}
use Rattle.ca_verilog.specs.declared.raw.RawSpan.{RawSpan}
use Rattle.ca_verilog.specs.declared.raw.RawNetlist.{RawNetlist}
use Rattle.ca_verilog.specs.IsNetlist.{bit_count, IsBit, IsOnBit, IsInstanceOf, IsNetlist}
use Rattle.ca_wiring.specs.declared.joined.Join.{Join}
use Rattle.ca_wiring.specs.Joined.{Same, AreEarliest}
use Rattle.ca_wiring.specs.Wiring.{HeaderBit, header_bits, wire_of}
use Rattle.ca_draft.specs.OnWires.{constant_wires, has_constant}
use Rattle.ca_draft.proofs.ConstantLemmas.{in_part, value_of}
use Rattle.ca_draft.proofs.HeaderLemmas.{header_within}
use Rattle.ca_linked.proofs.OrderLemmas.{place_of}
use Rattle.ca_fault_place.specs.code.Touched.{IsTouched, use_wires, instance_wires, touched_of}

-- what holds of all, holds of the one at a place
pub one_of : {X : Type 0} (P : X → Type 0) (xs : List X) (k : ℕ) (x : X) → All P xs → slice_get xs k ≡ Some x → P x
one_of P xs k x all at = subst P (get_or_from_slice_get xs k x x at) (all k x (slice_get_within xs k x at))

-- what holds of each member, holds of all
pub all_of : (P : ℕ → Type 0) (xs : List ℕ) → ((m : ℕ) → Contains xs m → P m) → All P xs
all_of P xs each k d lt = each (get_or xs k d) (Contains-get_or xs k d lt)

pub bit_within : (bits : ℕ) (bit : RawBit) → IsBit bits bit → wire_of bits bit < bits + 2
bit_within bits (Bit number) is = omega (arith, is)
bit_within bits (Constant false) is = omega arith
bit_within bits (Constant true) is = omega arith

use_within : (bits : ℕ) (bit : Option RawBit) → IsOnBit bits bit → (m : ℕ) → Contains (use_wires bits bit) m → m < bits + 2
use_within bits None is m has = absurd (let lt = has.1 in omega (arith, lt))
use_within bits (Some bit) is m (zero, lt, e) = subst (λ n. n < bits + 2) e (bit_within bits bit is)
use_within bits (Some bit) is m (suc k, lt, e) = absurd (omega (arith, lt))

constant_within : (bits wire : ℕ) (named : Bool) → wire < bits + 2 → (m : ℕ) → Contains (constant_wires wire named) m → m < bits + 2
constant_within bits wire false within m has = absurd (let lt = has.1 in omega (arith, lt))
constant_within bits wire true within m (zero, lt, e) = subst (λ n. n < bits + 2) e within
constant_within bits wire true within m (suc k, lt, e) = absurd (omega (arith, lt))

module _ (raw : RawNetlist) (is : IsNetlist raw) where
  abbrev bits : ℕ
  bits = bit_count raw.buses

  uses_within : (m : ℕ) → Contains (flat_map (instance_wires bits) raw.instances) m → m < bits + 2
  uses_within m has =
      let instance = in_part (instance_wires bits) raw.instances m has in
      let used = in_part (λ (used : RawUse). use_wires bits used.bit) instance.part.pins m instance.has in
      let of = one_of (IsInstanceOf bits) raw.instances instance.place instance.part is.instances instance.at in
      use_within bits used.part.bit (one_of (λ (used : RawUse). IsOnBit bits used.bit) instance.part.pins used.place used.part of.on_bits used.at) m used.has

  ports_within : (m : ℕ) → Contains (map (λ (bit : HeaderBit). bit.wire) (header_bits raw.buses raw.ports)) m → m < bits + 2
  ports_within m has =
      let found = value_of (λ (bit : HeaderBit). bit.wire) (header_bits raw.buses raw.ports) has.0 m
      (place_of (map (λ (bit : HeaderBit). bit.wire) (header_bits raw.buses raw.ports)) m has) in
      let lt = one_of (λ (bit : HeaderBit). bit.wire < bits) (header_bits raw.buses raw.ports) has.0 found.item
      (header_within raw.buses raw.ports) found.at in
      let same = found.is in
      omega (arith, lt, same)

  pub touched_within : (spans : List RawSpan) → (m : ℕ) → Contains (touched_of raw bits spans) m → m < bits + 2
  touched_within spans m has =
      elim (Contains-append_cases (flat_map (instance_wires bits) raw.instances) _ m has) [
        | inl uses ↦ uses_within m uses
        | inr rest ↦ elim (Contains-append_cases (map (λ (bit : HeaderBit). bit.wire) (header_bits raw.buses raw.ports)) _ m rest) [
          | inl port ↦ ports_within m port
          | inr constant ↦ elim (Contains-append_cases (constant_wires bits (list_any (has_constant false) spans)) _ m constant) [
            | inl low ↦ constant_within bits bits (list_any (has_constant false) spans) (omega arith) m low
            | inr high ↦ constant_within bits (bits + 1) (list_any (has_constant true) spans) (omega arith) m high
          ]
        ]
      ]

-- the earliest wire that is joined with one of this many is one of them
pub earliest_within : (joins : List Join) (wires : ℕ) (earliest : List ℕ) → AreEarliest joins wires earliest → (m : ℕ) → m < wires
    → get_or earliest m 0 < wires
earliest_within joins wires earliest are m lt = let le = (are.each m lt).none_before m (Same refl) in omega (arith, le, lt)

-- the wires that nets stand on are among all
pub listed_within : (raw : RawNetlist) → IsNetlist raw → (count : ℕ) → count ≡ bit_count raw.buses → (wires : List ℕ)
    → IsTouched raw count wires → All (λ m. m < count + 2) wires
listed_within raw is count same wires listed =
    all_of (λ m. m < count + 2) wires
    (λ m has. subst (λ n. m < n + 2) (sym same) (touched_within raw is listed.spans m
    (subst (λ n. Contains (touched_of raw n listed.spans) m) same (subst (λ l. Contains l m) listed.is has))))

-- and so are the earliest that are joined with them
module _ (joins : List Join) (wires : ℕ) (earliest touched : List ℕ) (are : AreEarliest joins wires earliest)
    (within : All (λ m. m < wires) touched) where
  pub marks_within : All (λ m. m < length earliest) touched
  marks_within k d lt = let less = within k d lt in let count = are.count in omega (arith, less, count)

  pub marks_listed : All (λ m. get_or earliest m 0 < length earliest) touched
  marks_listed k d lt =
      let less = earliest_within joins wires earliest are (get_or touched k d) (within k d lt) in
      let count = are.count in
      omega (arith, less, count)
