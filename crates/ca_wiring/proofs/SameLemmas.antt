-- What drives a net of a linked chip, and what drives the wires of its wiring, are the same.
use Rattle.std.proofs.Common.{◌≡◌, ℕ, zero, suc, ◌<◌, List, [], ◌∷◌, length, inl, inr, refl, sym, ◌∙◌, ap}
use Rattle.std.proofs.Common.{subst, arith}
use Rattle.std.specs.Prelude.{Some, IsTrue, slice_get}
use Rattle.std.specs.List.{AllPairs}
use Rattle.std.proofs.lemmas.Bool.{cases_lt}
use Rattle.std.proofs.lemmas.Option.{slice_get_within, get_or_from_slice_get, slice_get_cases}
use Rattle.ca_wiring.specs.Joined.{AreJoined}
use Rattle.ca_wiring.specs.Wiring.{HeaderBit, Wiring}
use Rattle.ca_wiring.specs.Nets.{Driving, PortBit, ConstantBit, OutputPin, DrivesWire, IsNet, AreNets, IsNetOf}
use Rattle.ca_wiring.specs.Nets.{AreNetsOf}
use Rattle.ca_wiring.specs.Nets as nets
use Rattle.ca_linked.specs.declared.parts.Source.{Source}
use Rattle.ca_linked.specs.declared.parts.Part.{Part}
use Rattle.ca_linked.specs.declared.parts.Source.TheVariants.{FromPort, FromConstant, FromPin}
use Rattle.ca_linked.specs.Linked.{LinkedChip, output_nets, Drives}
use Rattle.ca_linked.specs.declared.parts.PortBit as parts
use Rattle.ca_wiring.specs.Linking.{IsLinkOf}
use Rattle.ca_linked.specs.Drivers.{ComesBefore}
use Rattle.ca_wiring.specs.Same.{driving_of, HasSameDrivers, HasSameFirstTwo}
use Rattle.ca_linked.proofs.OrderLemmas.{contained_at}
use Rattle.ca_wiring.proofs.ForestLemmas.{joined_trans, joined_sym}
use Rattle.ca_linked.proofs.DriverLemmas.{some_inj, to_some}
use Rattle.ca_linked.proofs.FeedingLemmas.{item_of}

-- an ascending list has no number twice
ascending_once : (xs : List ℕ) (j k x : ℕ) → AllPairs (λ a b. a < b) xs → slice_get xs j ≡ Some x → slice_get xs k ≡ Some x → j ≡ k
ascending_once xs j k x ascending at_j at_k = elim (cases_lt j k) [
  | inl less ↦ absurd (
      let lt = ascending j k x less (slice_get_within xs k x at_k) in
      let a = get_or_from_slice_get xs j x x at_j in
      let b = get_or_from_slice_get xs k x x at_k in
      omega (arith, lt, a, b))
  | inr ge ↦ elim (cases_lt k j) [
    | inl less ↦ absurd (
        let lt = ascending k j x less (slice_get_within xs j x at_j) in
        let a = get_or_from_slice_get xs j x x at_j in
        let b = get_or_from_slice_get xs k x x at_k in
        omega (arith, lt, a, b))
    | inr le ↦ omega (arith, ge, le)
  ]
]

module _ (wiring : Wiring) (nets : List ℕ) where
  -- the wire of a net in a list of such
  record HasWire (wires : List ℕ) (k net : ℕ) : Type 0 where
    wire : ℕ
    at : slice_get wires k ≡ Some wire
    is_net : IsNetOf wiring nets wire net

  wire_at : (wires list : List ℕ) (k net : ℕ) → AreNetsOf wiring nets wires list → slice_get list k ≡ Some net → HasWire wires k net
  wire_at [] [] k net are at = absurd (let lt = slice_get_within [] k net at in omega (arith, lt))
  wire_at [] (first ∷ list) k net are at = absurd are
  wire_at (wire ∷ wires) [] k net are at = absurd are
  wire_at (wire ∷ wires) (first ∷ list) zero net are at = record { wire = wire; at = refl; is_net = subst (IsNetOf wiring nets wire) (some_inj first net at) are.0 }
  wire_at (wire ∷ wires) (first ∷ list) (suc k) net are at =
      let found = wire_at wires list k net are.1 at in
      record { wire = found.wire; at = found.at; is_net = found.is_net }

  -- the net of a wire in a list of such
  record HasNet (list : List ℕ) (k wire : ℕ) : Type 0 where
    net : ℕ
    at : slice_get list k ≡ Some net
    is_net : IsNetOf wiring nets wire net

  net_at : (wires list : List ℕ) (k wire : ℕ) → AreNetsOf wiring nets wires list → slice_get wires k ≡ Some wire → HasNet list k wire
  net_at [] [] k wire are at = absurd (let lt = slice_get_within [] k wire at in omega (arith, lt))
  net_at [] (first ∷ list) k wire are at = absurd are
  net_at (other ∷ wires) [] k wire are at = absurd are
  net_at (other ∷ wires) (first ∷ list) zero wire are at = record { net = first; at = refl; is_net = subst (λ w. IsNetOf wiring nets w first) (some_inj other wire at) are.0 }
  net_at (other ∷ wires) (first ∷ list) (suc k) wire are at =
      let found = net_at wires list k wire are.1 at in
      record { net = found.net; at = found.at; is_net = found.is_net }

  -- a wire on the net is joined with the wire that the net is known by
  pub net_joined : (from net wire : ℕ) → IsNetOf wiring nets from net → slice_get nets net ≡ Some wire → AreJoined wiring.joins from wire
  net_joined from net wire is at = subst (AreJoined wiring.joins from) (some_inj is.earliest wire (sym is.at ∙ at)) is.is_earliest.joined

  -- and a wire that is joined with it is on the net
  pub joined_net : (are : AreNets wiring nets) (from reported net wire : ℕ) → IsNetOf wiring nets from reported → AreJoined wiring.joins from wire → slice_get nets net ≡ Some wire → reported ≡ net
  joined_net are from reported net wire is joined at =
      let known : IsNet wiring wire = (are.has wire).0 (contained_at nets net wire at) in
      let le = is.is_earliest.none_before wire joined in
      let ge = known.earliest.none_before is.earliest (joined_trans wiring.joins wire from is.earliest (joined_sym wiring.joins from wire joined) is.is_earliest.joined) in
      let same : is.earliest ≡ wire = omega (arith, le, ge) in
      ascending_once nets reported net wire are.ascending (is.at ∙ ap Some same) at

-- a list as long as another has something where that has
also_there : {X Y : Type 0} (xs : List X) (ys : List Y) (k : ℕ) (y : Y) → length ys ≡ length xs → slice_get ys k ≡ Some y → (x : X) × (slice_get xs k ≡ Some x)
also_there xs ys k y same at = elim (slice_get_cases xs k).1 [
  | inl there ↦ (there.0, there.2)
  | inr past ↦ absurd (let lt = slice_get_within ys k y at in let following = past.0 in omega (arith, lt, following, same))
]

module _ (wiring : Wiring) (chip : LinkedChip) (link : IsLinkOf wiring chip) (net wire : ℕ) (at : slice_get link.nets net ≡ Some wire) where
  to_chip : (source : Source) → nets.Drives wiring wire (driving_of source) → Drives chip net source
  to_chip (FromPort p) drives =
      let found = item_of wiring.header p (λ port. IsTrue port.is_input × (port.wire ≡ drives.at)) drives.drives in
      let port = also_there chip.ports wiring.header p found.item (sym link.same_ports) found.at in
      let is = link.ports p found.item port.0 found.at port.1 in
      let joined : AreJoined wiring.joins found.item.wire wire = subst (λ w. AreJoined wiring.joins w wire) (sym found.has.1) drives.joined in
      to_some (λ (q : parts.PortBit). IsTrue q.is_input × (q.net ≡ net)) (slice_get chip.ports p) port.0 port.1
      (subst IsTrue (sym is.is_input) found.has.0, joined_net wiring link.nets link.are found.item.wire port.0.net net wire is.net joined at)
  to_chip (FromConstant value) drives = (link.constants net wire value at).1 drives
  to_chip (FromPin u pin) drives =
      let wired = drives.drives.0 in
      let part = also_there chip.parts wiring.parts u wired (sym link.same_parts) drives.drives.1 in
      let is = link.parts u wired part.0 drives.drives.1 part.1 in
      let found = net_at wiring link.nets wired.outputs (output_nets part.0.body) pin drives.at is.outputs drives.drives.2 in
      let same = joined_net wiring link.nets link.are drives.at found.net net wire found.is_net drives.joined at in
      to_some (λ (p : Part). slice_get (output_nets p.body) pin ≡ Some net) (slice_get chip.parts u) part.0 part.1 (found.at ∙ ap Some same)

  to_wiring : (source : Source) → Drives chip net source → nets.Drives wiring wire (driving_of source)
  to_wiring (FromPort p) drives =
      let found = item_of chip.ports p (λ q. IsTrue q.is_input × (q.net ≡ net)) drives in
      let port = also_there wiring.header chip.ports p found.item link.same_ports found.at in
      let is = link.ports p port.0 found.item port.1 found.at in
      record {
        at = port.0.wire;
        drives = to_some (λ (q : HeaderBit). IsTrue q.is_input × (q.wire ≡ port.0.wire)) (slice_get wiring.header p) port.0 port.1
            (subst IsTrue is.is_input found.has.0, refl);
        joined = net_joined wiring link.nets port.0.wire net wire (subst (IsNetOf wiring link.nets port.0.wire) found.has.1 is.net) at;
      }
  to_wiring (FromConstant value) drives = (link.constants net wire value at).0 drives
  to_wiring (FromPin u pin) drives =
      let found = item_of chip.parts u (λ p. slice_get (output_nets p.body) pin ≡ Some net) drives in
      let wired = also_there wiring.parts chip.parts u found.item link.same_parts found.at in
      let is = link.parts u wired.0 found.item wired.1 found.at in
      let from = wire_at wiring link.nets wired.0.outputs (output_nets found.item.body) pin net is.outputs found.has in
      record {
        at = from.wire;
        drives = (wired.0, wired.1, from.at);
        joined = net_joined wiring link.nets from.wire net wire from.is_net at;
      }

pub same_drivers : HasSameDrivers
same_drivers wiring chip link net wire at source = (to_wiring wiring chip link net wire at source, to_chip wiring chip link net wire at source)

-- the order is the same
same_order : (a b : Source) → ComesBefore a b → nets.ComesBefore (driving_of a) (driving_of b)
same_order (FromPort a) (FromPort b) lt = lt
same_order (FromPort a) (FromConstant b) lt = tt
same_order (FromPort a) (FromPin w other) lt = tt
same_order (FromConstant a) (FromPort b) lt = lt
same_order (FromConstant a) (FromConstant b) lt = lt
same_order (FromConstant a) (FromPin w other) lt = tt
same_order (FromPin u pin) (FromPort b) lt = lt
same_order (FromPin u pin) (FromConstant b) lt = lt
same_order (FromPin u pin) (FromPin w other) lt = lt

order_same : (a b : Source) → nets.ComesBefore (driving_of a) (driving_of b) → ComesBefore a b
order_same (FromPort a) (FromPort b) lt = lt
order_same (FromPort a) (FromConstant b) lt = tt
order_same (FromPort a) (FromPin w other) lt = tt
order_same (FromConstant a) (FromPort b) lt = lt
order_same (FromConstant a) (FromConstant b) lt = lt
order_same (FromConstant a) (FromPin w other) lt = tt
order_same (FromPin u pin) (FromPort b) lt = lt
order_same (FromPin u pin) (FromConstant b) lt = lt
order_same (FromPin u pin) (FromPin w other) lt = lt

-- each is that of a source
source_of : (driving : Driving) → (source : Source) × (driving_of source ≡ driving)
source_of (PortBit p) = (FromPort p, refl)
source_of (ConstantBit value) = (FromConstant value, refl)
source_of (OutputPin u pin) = (FromPin u pin, refl)

pub same_first_two : HasSameFirstTwo
same_first_two wiring chip link net wire at one two first = record {
  drives_one = to_wiring wiring chip link net wire at one first.one_has;
  drives_two = to_wiring wiring chip link net wire at two first.two_has;
  in_order = same_order one two first.in_order;
  none_before = λ other drives before.
      let source = source_of other in
      let here = to_chip wiring chip link net wire at source.0 (subst (nets.Drives wiring wire) (sym source.1) drives) in
      let earlier = order_same source.0 two (subst (λ d. nets.ComesBefore d (driving_of two)) (sym source.1) before) in
      sym source.1 ∙ ap driving_of (first.none_before source.0 here earlier);
}
