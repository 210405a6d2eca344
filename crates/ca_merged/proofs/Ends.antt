-- What a merged chip ends with.
use Rattle.std.proofs.Common.{◌≡◌, ℕ, ◌+◌, ◌-◌, ◌<◌, ◌≤◌, ◌^◌, ◌⊎◌, ◌↔◌, List, [], ◌∷◌, length, min}
use Rattle.std.proofs.Common.{Some, None, true, inl, inr, refl, sym, ◌∙◌, ap, subst, arith}
use Rattle.std.specs.Prelude.{max, IsTrue}
use Rattle.std.proofs.lemmas.Bool.{cases_lt, cases_order}
use Rattle.std.proofs.lemmas.List.{length-append}
use Rattle.ca_net.specs.declared.trit.Trit.{Trit}
use Rattle.ca_net.specs.declared.scale.TheConstants.{INNER_NODE}
use Rattle.ca_net.specs.declared.node.NodeKind.TheVariants.{Input, Storage}
use Rattle.ca_net.specs.Circuit.{Circuit, IsWellFormed, IsInput, kind_at}
use Rattle.ca_net.specs.PairRun.{EndsAt}
use Rattle.ca_cell.specs.Defect.{bridge, is_short}
use Rattle.ca_cell.specs.Exposes.{opposite_of}
use Rattle.ca_flat.specs.declared.chip_defect.ChipDefect.{ChipDefect}
use Rattle.ca_net.specs.State.{value_at}
use Rattle.ca_flat.specs.Chip.{Chip, IsChip, IsDefectIn, circuit_at}
use Rattle.ca_flat.specs.Chip.{net_of, count_of}
use Rattle.ca_flat.specs.Flat.{outer_count, inner_count, place, flat}
use Rattle.ca_flat.specs.Pair.{first_vector, last_vector, NetEndsAt}
use Rattle.ca_flat.proofs.Simulated.{flat_is_split_lem}
use Rattle.ca_flat.proofs.Spots.{flat_length, flat_inner}
use Rattle.ca_flat.proofs.Split.{place_within}
use Rattle.ca_renumber.specs.Renumbered.{IsRenumbered, IsRenumberedVector}
use Rattle.ca_renumber.proofs.Runs.{ends_are_renumbered_lem}
use Rattle.ca_merged.specs.Cluster.{seat, is_driven}
use Rattle.ca_merged.specs.Merged.{AreMembers, merged}
use Rattle.ca_merged.specs.Bridge.{node_id, with_bridge, IsInputPin, IsBridge, bridged, BridgeEndsAt, IsDrivenPin}
use Rattle.ca_merged.specs.Bridge.{IsInCluster, HoldsBridge, short_of}
use Rattle.ca_merged.specs.Laws.{MergedIsChip, MergedFlatIsRenumbered, ShortIsBridge, StandsFor}
use Rattle.ca_merged.specs.Laws.{MergedStandsFor}
use Rattle.ca_merged.proofs.After.{after, are_after}
use Rattle.ca_merged.proofs.Blocks.{start_within}
use Rattle.ca_merged.proofs.Counts.{same_count}
use Rattle.ca_merged.proofs.Instances.{last, whole, count_is, inputs_last}
use Rattle.ca_merged.proofs.MergedChip.{new_rank, merged_is_chip}
use Rattle.ca_merged.proofs.Nets.{is_driven_at}
use Rattle.ca_merged.proofs.Numbers.{number, length_last}
use Rattle.ca_merged.proofs.Places.{rail_number, pin_number, inner_number}
use Rattle.ca_merged.proofs.Renumbering.{renumbered, kept}
use Rattle.ca_merged.proofs.Seats.{ni, seat_rail, seat_pin, seat_inner, OutputSeat, output_seat}
use Rattle.ca_merged.proofs.Shorts.{short_flat, with_image, bridge_image, is_short_from}

pub merged_is_chip_lem : MergedIsChip
merged_is_chip_lem chip rank members is are keeps = (
  new_rank chip members rank is are keeps (after chip members rank is are) (are_after chip members rank is are),
  merged_is_chip chip members rank is are keeps (after chip members rank is are) (are_after chip members rank is are),
)

pub merged_flat_is_renumbered_lem : MergedFlatIsRenumbered
merged_flat_is_renumbered_lem chip rank members is are keeps =
    let whole_is = merged_is_chip_lem chip rank members is are keeps in
    record {
      number = number chip members are;
      renumbered = renumbered chip members rank is are whole_is.0 whole_is.1;
      kept = kept chip members rank is are whole_is.0 whole_is.1;
    }

-- where an end of a bridge stands in the cluster
module _ (chip : Chip) (members : List ℕ) (rank : ℕ → ℕ) (is : IsChip chip rank) (are : AreMembers chip members) (u : ℕ) (known : u < count_of chip) where
  pub record HasSeat (e : ℕ) : Type 0 where
    pub number_is : number chip members are (place chip u e) ≡ place (whole chip members) (last chip members) (seat chip members u e)
    pub within : seat chip members u e < length (circuit_at (whole chip members) (last chip members)).nodes
    pub off_pins : (seat chip members u e < 2) ⊎ (2 + ni chip members ≤ seat chip members u e)

  driven_seat : (e : ℕ) (d : IsDrivenPin chip members u e) → OutputSeat chip members (net_of chip u d.pin)
  driven_seat e d =
      let node = d.node in let outer = d.outer in
      output_seat chip members (net_of chip u d.pin) (is.on_nets u d.pin known (omega arith))
      (subst (λ x. is_driven chip members x ≡ true) d.driver.on (is_driven_at chip members d.driver.instance d.driver.output d.member d.driver.within))

  driven_high : (e : ℕ) (d : IsDrivenPin chip members u e) → 2 + ni chip members ≤ seat chip members u e
  driven_high e d =
      let s = driven_seat e d in
      let at = s.at in
      let q = seat_pin chip members u e d.pin d.node d.outer in
      omega arith

  end_seat : (e : ℕ) → e < length (circuit_at chip u).nodes → IsInCluster chip members u e → HasSeat e
  end_seat e lt (inl rail) =
      let r = seat_rail chip members u e rail in
      let l = length_last chip members in
      record { number_is = rail_number chip members rank is are u e rail; within = omega arith; off_pins = inl (omega arith) }
  end_seat e lt (inr (inl d)) =
      let s = driven_seat e d in
      let at = s.at in let w = s.within in let node = d.node in
      let q = seat_pin chip members u e d.pin d.node d.outer in
      let l = length_last chip members in
      let same : d.pin ≡ e - 2 = omega arith in
      record {
        number_is = pin_number chip members rank is are u e known (omega arith) d.outer (inl (subst (λ x. OutputSeat chip members (net_of chip u x)) same s));
        within = omega arith;
        off_pins = inr (omega arith);
      }
  end_seat e lt (inr (inr inner)) =
      let past : outer_count chip u ≤ e = inner.0 in
      let q = seat_inner chip members u e (e - outer_count chip u) (omega arith) in
      let b = start_within (inner_count chip) members u (e - outer_count chip u) inner.1 (omega arith) in
      let l = length_last chip members in
      record {
        number_is = inner_number chip members rank is are u e inner.1 inner.0 lt;
        within = omega arith;
        off_pins = inr (omega arith);
      }

  -- an input pin stands past the cluster's input pins
  pin_high : (e : ℕ) → IsInputPin chip u e → IsInCluster chip members u e → 2 + ni chip members ≤ seat chip members u e
  pin_high e pin (inl rail) = let a = pin.0 in absurd (omega arith)
  pin_high e pin (inr (inl d)) = driven_high e d
  pin_high e pin (inr (inr inner)) = let a = pin.1 in let past = inner.0 in absurd (omega arith)

-- the two ends in the order of their seats
pub record InOrder (x y a b : ℕ) : Type 0 where
  pub low : min a b ≡ x
  pub high : max a b ≡ y
  pub less : x < y
  pub each : ((x ≡ a) × (y ≡ b)) ⊎ ((x ≡ b) × (y ≡ a))

in_order : (a b : ℕ) → (a ≡ b → ⊥) → InOrder (min a b) (max a b) a b
in_order a b ne = elim (cases_order a b) [
  | inl e ↦ absurd (ne e)
  | inr (inl lt) ↦ record { low = refl; high = refl; less = omega arith; each = inl (omega arith, omega arith) }
  | inr (inr gt) ↦ record { low = refl; high = refl; less = omega arith; each = inr (omega arith, omega arith) }
]

first_kept : (chip : Chip) (members : List ℕ) (pair : List Trit) → first_vector (whole chip members) pair ≡ first_vector chip pair
unfolding merged
first_kept chip members pair = refl

last_kept : (chip : Chip) (members : List ℕ) (pair : List Trit) → last_vector (whole chip members) pair ≡ last_vector chip pair
unfolding merged
last_kept chip members pair = refl

inputs_same : (chip : Chip) (members : List ℕ) → (whole chip members).inputs ≡ chip.inputs
unfolding merged
inputs_same chip members = refl

outputs_same : (chip : Chip) (members : List ℕ) → (whole chip members).outputs ≡ chip.outputs
unfolding merged
outputs_same chip members = refl

-- the input nodes of a flat network are power, ground and nets
input_low : (chip : Chip) (x : ℕ) → IsInput (flat chip None) x → x < 2 + length chip.nets
input_low chip x i = elim (cases_lt x (2 + length chip.nets)) [
  | inl lt ↦ lt
  | inr ge ↦
      let f = flat_length chip None in let within = i.0 in
      let e : 2 + length chip.nets + (x - (2 + length chip.nets)) ≡ x = omega arith in
      let k : kind_at (flat chip None) x ≡ Storage INNER_NODE =
      ap (kind_at (flat chip None)) (sym e) ∙ flat_inner chip None (x - (2 + length chip.nets)) (omega arith) in
      let z : Input ≡ Storage INNER_NODE = sym i.1 ∙ k in
      cc
]

module _ (chip : Chip) (rank : ℕ → ℕ) (members : List ℕ) (u m n : ℕ) (is : IsChip chip rank) (is_bridge : IsBridge chip u m n)
    (holds : HoldsBridge chip members u m n) where
  abbrev w : Chip
  w = whole chip members

  abbrev l : ℕ
  l = last chip members

  abbrev a : ℕ
  a = seat chip members u m

  abbrev b : ℕ
  b = seat chip members u n

  abbrev to : ℕ → ℕ
  to = number chip members holds.are_members

  new : (r : ℕ → ℕ) × IsChip w r
  new = merged_is_chip_lem chip rank members is holds.are_members holds.keeps

  ren : IsRenumbered (flat chip None) (flat w None) to
  ren = renumbered chip members rank is holds.are_members new.0 new.1

  to_kept : (x : ℕ) → x < 2 + length chip.nets → to x ≡ x
  to_kept = kept chip members rank is holds.are_members new.0 new.1

  low_seat : HasSeat chip members rank is holds.are_members u is_bridge.known m
  low_seat =
      let lt = is_bridge.within in let o = is_bridge.ordered in
      end_seat chip members rank is holds.are_members u is_bridge.known m (omega arith) holds.low

  high_seat : HasSeat chip members rank is holds.are_members u is_bridge.known n
  high_seat = end_seat chip members rank is holds.are_members u is_bridge.known n is_bridge.within holds.high

  seats_differ : a ≡ b → ⊥
  seats_differ e =
      let lt = is_bridge.within in let o = is_bridge.ordered in
      holds.apart (ren.distinct (place chip u m) (place chip u n)
      (place_within chip rank None is tt u m is_bridge.known (omega arith)) (place_within chip rank None is tt u n is_bridge.known is_bridge.within)
      (low_seat.number_is ∙ ap (place w l) e ∙ sym high_seat.number_is))

  ordered : InOrder (min a b) (max a b) a b
  ordered = in_order a b seats_differ

  ends_of : ((place w l (min a b) ≡ to (place chip u m)) × (place w l (max a b) ≡ to (place chip u n)))
      ⊎ ((place w l (min a b) ≡ to (place chip u n)) × (place w l (max a b) ≡ to (place chip u m)))
  ends_of = elim ordered.each [
    | inl e ↦ inl (ap (place w l) e.0 ∙ sym low_seat.number_is, ap (place w l) e.1 ∙ sym high_seat.number_is)
    | inr e ↦ inr (ap (place w l) e.0 ∙ sym high_seat.number_is, ap (place w l) e.1 ∙ sym low_seat.number_is)
  ]

  abbrev short : ChipDefect
  short = short_of chip members u m n

  flat_is : flat w (Some short) ≡ with_bridge (flat w None) (place w l (min a b)) (place w l (max a b))
  flat_is = short_flat w l (node_id (min a b)) (node_id (max a b))

  -- the flat network with the short is that with the bridge
  pub short_renumbered : IsRenumbered (bridged chip u m n) (flat w (Some short)) to
  short_renumbered =
      subst (λ f. IsRenumbered (bridged chip u m n) f to) (sym flat_is)
      (with_image (flat chip None) (flat w None) to (place chip u m) (place chip u n) (place w l (min a b)) (place w l (max a b)) ren
      (bridge_image to (place chip u m) (place chip u n) (place w l (min a b)) (place w l (max a b)) ends_of))

  high_past : 2 + ni chip members ≤ max a b
  high_past = elim is_bridge.pin [
    | inl p ↦ let h = pin_high chip members rank is holds.are_members u is_bridge.known m p holds.low in omega arith
    | inr p ↦ let h = pin_high chip members rank is holds.are_members u is_bridge.known n p holds.high in omega arith
  ]

  low_off : (min a b < 2) ⊎ (2 + ni chip members ≤ min a b)
  low_off = elim ordered.each [
    | inl e ↦ elim low_seat.off_pins [ inl r ↦ let q = e.0 in inl (omega arith) | inr r ↦ let q = e.0 in inr (omega arith) ]
    | inr e ↦ elim high_seat.off_pins [ inl r ↦ let q = e.0 in inl (omega arith) | inr r ↦ let q = e.0 in inr (omega arith) ]
  ]

  -- the short is a defect of the merged chip
  pub short_listed : IsDefectIn w short
  short_listed = record {
    known = let c = count_is chip members in omega arith;
    listed = (
      (let x = low_seat.within in let y = high_seat.within in omega arith),
      subst (λ k. IsTrue (is_short k (min a b) (max a b))) (sym (inputs_last chip members))
          (is_short_from (ni chip members) (min a b) (max a b) ordered.less low_off high_past),
    );
  }

  module _ (formed : IsWellFormed (bridged chip u m n)) where
    fewer : length (flat chip None).devices + 1 < 2 ^ 32
    fewer =
        let f = formed.few_devices in
        let e = length-append (flat chip None).devices (bridge (node_id (place chip u m)) (node_id (place chip u n)) ∷ []) in
        omega arith

    good_formed : IsWellFormed (flat chip None)
    good_formed = let f = fewer in (flat_is_split_lem chip rank None is tt).1 formed.few_nodes (omega arith)

    merged_formed : IsWellFormed (flat w None)
    merged_formed =
        let f = fewer in let c = ren.count in let d = same_count chip members holds.are_members in let k = formed.few_nodes in
        (flat_is_split_lem w new.0 None new.1 tt).1 (omega arith) (omega arith)

    short_formed : IsWellFormed (flat w (Some short))
    short_formed =
        let f = fewer in let c = short_renumbered.count in let d = same_count chip members holds.are_members in let k = formed.few_nodes in
        let e = ap (λ x. length x.devices) flat_is in
        let g = length-append (flat w None).devices (bridge (node_id (place w l (min a b))) (node_id (place w l (max a b))) ∷ []) in
        (flat_is_split_lem w new.0 (Some short) new.1 short_listed).1 (omega arith) (omega arith)

    vector_kept : (v : List Trit) → IsRenumberedVector (flat chip None) to v v
    vector_kept v x i = ap (value_at v) (to_kept x (input_low chip x i))

    net_within : (net : ℕ) → net < length chip.nets → 2 + net < length (flat chip None).nodes
    net_within net lt = let f = flat_length chip None in omega arith

    ends : (c f : Circuit) (pair : List Trit) (net : ℕ) (v : Trit) → net < length chip.nets → c.nodes ≡ (flat chip None).nodes
        → IsWellFormed c → IsWellFormed f → IsRenumbered c f to
        → ((x : List Trit) → IsRenumberedVector c to x x)
        → EndsAt c (first_vector chip pair) (last_vector chip pair) (2 + net) v
        ↔ EndsAt f (first_vector w pair) (last_vector w pair) (2 + net) v
    ends c f pair net v lt same c_formed f_formed r vector =
        let within : 2 + net < length c.nodes = subst (λ xs. 2 + net < length xs) (sym same) (net_within net lt) in
        let h = ends_are_renumbered_lem c f to (first_vector chip pair) (last_vector chip pair) (first_vector chip pair) (last_vector chip pair) (2 + net) v
        c_formed f_formed r (vector (first_vector chip pair)) (vector (last_vector chip pair)) within in
        let h1 = subst (λ x. EndsAt c (first_vector chip pair) (last_vector chip pair) (2 + net) v ↔ EndsAt f (first_vector chip pair) (last_vector chip pair) x v)
        (to_kept (2 + net) (omega arith)) h in
        let h2 = subst (λ x. EndsAt c (first_vector chip pair) (last_vector chip pair) (2 + net) v ↔ EndsAt f x (last_vector chip pair) (2 + net) v)
        (sym (first_kept chip members pair)) h1 in
        subst (λ x. EndsAt c (first_vector chip pair) (last_vector chip pair) (2 + net) v ↔ EndsAt f (first_vector w pair) x (2 + net) v)
        (sym (last_kept chip members pair)) h2

    good_ends : (pair : List Trit) (net : ℕ) (v : Trit) → net < length chip.nets → NetEndsAt chip None pair net v ↔ NetEndsAt w None pair net v
    good_ends pair net v lt = ends (flat chip None) (flat w None) pair net v lt refl good_formed merged_formed ren vector_kept

    faulty_ends : (pair : List Trit) (net : ℕ) (v : Trit) → net < length chip.nets → BridgeEndsAt chip u m n pair net v ↔ NetEndsAt w (Some short) pair net v
    faulty_ends pair net v lt = ends (bridged chip u m n) (flat w (Some short)) pair net v lt refl formed short_formed short_renumbered vector_kept

    pub stands_for : StandsFor chip members u m n
    stands_for = record {
      rank = new.0;
      flat_chip = record { chip_is = new.1; defect_is = short_listed; good_is = merged_formed; faulty_is = short_formed };
      same_inputs = inputs_same chip members;
      same_outputs = outputs_same chip members;
      good = good_ends;
      faulty = faulty_ends;
      detects = λ pair net lt. (
        (λ d. record { value = d.value; good = (good_ends pair net d.value lt).0 d.good; faulty = (faulty_ends pair net (opposite_of d.value) lt).0 d.faulty }),
        (λ d. record { value = d.value; good = (good_ends pair net d.value lt).1 d.good; faulty = (faulty_ends pair net (opposite_of d.value) lt).1 d.faulty }),
      );
    }

pub short_is_bridge_lem : ShortIsBridge
short_is_bridge_lem chip rank members u m n is is_bridge holds = record {
  number = number chip members holds.are_members;
  renumbered = short_renumbered chip rank members u m n is is_bridge holds;
  kept = to_kept chip rank members u m n is is_bridge holds;
}

pub merged_stands_for_lem : MergedStandsFor
merged_stands_for_lem chip rank members u m n is is_bridge formed holds =
    stands_for chip rank members u m n is is_bridge holds formed
