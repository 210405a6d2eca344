-- Which nets of a linked chip have a load, or are on ports, and which wires.
use Rattle.std.proofs.Common.{◌≡◌, ℕ, zero, suc, ◌<◌, [], ◌∷◌, Bool, true, false, inl, inr, refl, sym, ◌∙◌}
use Rattle.std.proofs.Common.{ap, subst, arith, get_or}
use Rattle.std.specs.Prelude.{slice_get, eqb, not, if◌then◌else◌, IsTrue}
use Rattle.std.specs.List.{Contains, flat_map}
use Rattle.std.proofs.lemmas.Bool.{or_cases, or_left, or_right, and_parts, and_from, eqb-true, eq-eqb}
use Rattle.std.proofs.lemmas.List.Elements.{Contains-append_left, Contains-append_right}
use Rattle.std.proofs.lemmas.List.Elements.{Contains-append_cases}
use Rattle.ca_linked.specs.Linked.{LinkedChip, input_nets}
use Rattle.ca_linked.specs.Paths.{is_among, is_port_on, is_on_port}
use Rattle.ca_linked.specs.Controls.{is_loaded}
use Rattle.ca_wiring.specs.Joined.{AreJoined}
use Rattle.ca_wiring.specs.Wiring.{HeaderBit, WiredPart, Wiring, out_bits}
use Rattle.ca_wiring.specs.Nets.{IsNetOf, IsLoaded}
use Rattle.ca_wiring.specs.Linking.{IsLinkOf}
use Rattle.ca_wiring.specs.Rules.{IsOnInputPort, IsJoinedWithOne}
use Rattle.ca_linked.proofs.DriverLemmas.{to_some}
use Rattle.ca_linked.proofs.FeedingLemmas.{item_of}
use Rattle.ca_link.proofs.NetsLemmas.{one_net_joined, joined_one_net, also_there}
use Rattle.ca_link.proofs.JoinedLemmas.{any_at, at_any, flat_at, at_flat, list_joined, joined_list, Matches}
use Rattle.ca_link.proofs.JoinedLemmas.{one_joined, joined_one}

-- a list of one
pub only_one : (x y : ℕ) → Contains (x ∷ []) y → x ≡ y
only_one x y contains = by contains.0 contains.1 contains.2
  where
    by : (k : ℕ) → k < 1 → get_or (x ∷ []) k y ≡ y → x ≡ y
    by zero lt same = same
    by (suc k) lt same = absurd (omega (arith, lt))

-- the direction of a port bit
as_input : (b : Bool) → IsTrue b → (if b then true else not true) ≡ true
as_input true is = refl
as_input false is = absurd (let clash : false ≡ true = is in cc)

input_as : (b : Bool) → (if b then true else not true) ≡ true → IsTrue b
input_as true e = refl
input_as false e = absurd (let clash : false ≡ true = e in cc)

as_output : (b : Bool) (wire w : ℕ) → Contains (if b then [] else wire ∷ []) w → ((if b then false else not false) ≡ true) × (wire ≡ w)
as_output true wire w contains = absurd (let lt = contains.1 in omega (arith, lt))
as_output false wire w contains = (refl, only_one wire w contains)

output_as : (b : Bool) (wire : ℕ) → (if b then false else not false) ≡ true → Contains (if b then [] else wire ∷ []) wire
output_as true wire e = absurd (let clash : false ≡ true = e in cc)
output_as false wire e = (0, omega arith, refl)

module _ (wiring : Wiring) (chip : LinkedChip) (link : IsLinkOf wiring chip) (net wire : ℕ) (is : IsNetOf wiring link.nets wire net) where
  -- a bit of an input port is on the net
  pub on_input : is_on_port chip true net ≡ true → IsOnInputPort wiring wire
  on_input e =
      let found = any_at (is_port_on true net) chip.ports e in
      let p = found.0 in
      let port = found.1 in
      let both = and_parts (if port.is_input then true else not true) (eqb net port.net) found.3 in
      let bit = also_there wiring.header chip.ports p port link.same_ports found.2 in
      let of = link.ports p bit.0 port bit.1 found.2 in (
        p,
        record {
          at = bit.0.wire;
          drives = to_some (λ (b : HeaderBit). IsTrue b.is_input × (b.wire ≡ bit.0.wire)) (slice_get wiring.header p) bit.0 bit.1
              (subst IsTrue of.is_input (input_as port.is_input both.0), refl);
          joined = one_net_joined wiring link.nets bit.0.wire wire net
              (subst (IsNetOf wiring link.nets bit.0.wire) (sym (eqb-true net port.net both.1)) of.net) is;
        },
      )

  pub input_on : IsOnInputPort wiring wire → is_on_port chip true net ≡ true
  input_on (p, drives) =
      let found = item_of wiring.header p (λ b. IsTrue b.is_input × (b.wire ≡ drives.at)) drives.drives in
      let bit = found.item in
      let port = also_there chip.ports wiring.header p bit (sym link.same_ports) found.at in
      let of = link.ports p bit port.0 found.at port.1 in
      let same : port.0.net ≡ net = joined_one_net wiring link.nets link.are.ascending bit.wire wire port.0.net net of.net is
      (subst (λ w. AreJoined wiring.joins w wire) (sym found.has.1) drives.joined) in
      at_any (is_port_on true net) chip.ports p port.0 port.1
      (and_from (if port.0.is_input then true else not true) (eqb net port.0.net)
      (as_input port.0.is_input (subst IsTrue (sym of.is_input) found.has.0)) (eq-eqb net port.0.net (sym same)))

  -- a bit of an output port is on the net
  pub on_output : is_on_port chip false net ≡ true → IsJoinedWithOne wiring (out_bits wiring) wire
  on_output e =
      let found = any_at (is_port_on false net) chip.ports e in
      let p = found.0 in
      let port = found.1 in
      let both = and_parts (if port.is_input then false else not false) (eqb net port.net) found.3 in
      let bit = also_there wiring.header chip.ports p port link.same_ports found.2 in
      let of = link.ports p bit.0 port bit.1 found.2 in (
        bit.0.wire,
        at_flat (λ (b : HeaderBit). if b.is_input then [] else b.wire ∷ []) wiring.header p bit.0 bit.0.wire bit.1
            (output_as bit.0.is_input bit.0.wire (ap (λ b. if b then false else not false) (sym of.is_input) ∙ both.0)),
        one_net_joined wiring link.nets bit.0.wire wire net
            (subst (IsNetOf wiring link.nets bit.0.wire) (sym (eqb-true net port.net both.1)) of.net) is,
      )

  pub output_on : IsJoinedWithOne wiring (out_bits wiring) wire → is_on_port chip false net ≡ true
  output_on (other, contains, joined) =
      let found = flat_at (λ (b : HeaderBit). if b.is_input then [] else b.wire ∷ []) wiring.header other contains in
      let p = found.0 in
      let bit = found.1 in
      let reported = as_output bit.is_input bit.wire other found.3 in
      let port = also_there chip.ports wiring.header p bit (sym link.same_ports) found.2 in
      let of = link.ports p bit port.0 found.2 port.1 in
      let same : port.0.net ≡ net = joined_one_net wiring link.nets link.are.ascending bit.wire wire port.0.net net of.net is
      (subst (λ w. AreJoined wiring.joins w wire) (sym reported.1) joined) in
      at_any (is_port_on false net) chip.ports p port.0 port.1
      (and_from (if port.0.is_input then false else not false) (eqb net port.0.net)
      (ap (λ b. if b then false else not false) of.is_input ∙ reported.0) (eq-eqb net port.0.net (sym same)))

  inputs_match : Matches wiring chip link input_nets (λ part. part.inputs)
  inputs_match wired part of n w is_n = (
    list_joined wiring link.nets wired.inputs (input_nets part.body) n w of.inputs is_n,
    joined_list wiring link.nets link.are wired.inputs (input_nets part.body) n w of.inputs is_n,
  )

  -- an input pin is on the net
  pub on_pin : is_among input_nets chip.parts net ≡ true → IsJoinedWithOne wiring (flat_map (λ part. part.inputs) wiring.parts) wire
  on_pin e = one_joined wiring chip link input_nets (λ part. part.inputs) inputs_match net wire is e

  pub pin_on : IsJoinedWithOne wiring (flat_map (λ part. part.inputs) wiring.parts) wire → is_among input_nets chip.parts net ≡ true
  pin_on has = joined_one wiring chip link input_nets (λ part. part.inputs) inputs_match net wire is has

  -- the net has a load
  pub loaded_wire : is_loaded chip net ≡ true → IsLoaded wiring wire
  loaded_wire e = elim (or_cases (is_among input_nets chip.parts net) (is_on_port chip false net) e) [
    | inl pin ↦
        let has = on_pin pin in
        record { at = has.0; load = Contains-append_left (flat_map (λ (part : WiredPart). part.inputs) wiring.parts) (out_bits wiring) has.0 has.1; joined = has.2 }
    | inr port ↦
        let has = on_output port in
        record { at = has.0; load = Contains-append_right (flat_map (λ (part : WiredPart). part.inputs) wiring.parts) (out_bits wiring) has.0 has.1; joined = has.2 }
  ]

  pub wire_loaded : IsLoaded wiring wire → is_loaded chip net ≡ true
  wire_loaded loaded =
      elim (Contains-append_cases (flat_map (λ (part : WiredPart). part.inputs) wiring.parts) (out_bits wiring) loaded.at loaded.load) [
        | inl pin ↦ or_left (is_among input_nets chip.parts net) (is_on_port chip false net) (pin_on (loaded.at, pin, loaded.joined))
        | inr port ↦ or_right (is_among input_nets chip.parts net) (is_on_port chip false net) (output_on (loaded.at, port, loaded.joined))
      ]
