-- The cluster's nodes, as the tables have them.
use Rattle.std.proofs.Common.{◌≡◌, ℕ, zero, suc, ◌+◌, ◌-◌, ◌<◌, ◌≤◌, ◌^◌, ◌⊎◌, List, [], ◌∷◌, ◌++◌, length, map, Bool, true, false}
use Rattle.std.proofs.Common.{inl, inr, refl, sym, ◌∙◌, ap, subst, arith, get_or, eqb, Option, Some, None}
use Rattle.std.specs.Prelude.{slice_get, IsSomeAnd, if◌then◌else◌}
use Rattle.std.specs.List.{Contains, filter, range_with_len, position_or_len}
use Rattle.std.proofs.lemmas.Bool.{cases_lt, cases_Bool}
use Rattle.std.proofs.lemmas.List.{length-append, length-map, get_or_append_left, get_or_push, get_or-map}
use Rattle.std.proofs.lemmas.List.Elements.{Contains-append_cases}
use Rattle.std.proofs.lemmas.Option.{slice_get_within, get_or_from_slice_get}
use Rattle.ca_cell.specs.declared.raw.RawCell.{RawCell}
use Rattle.ca_cell.specs.Raw.{is_input, is_output, role_count}
use Rattle.ca_flat.specs.Chip.{Instance, cell_at, circuit_at, net_of}
use Rattle.ca_flat.specs.Flat.{outer_count}
use Rattle.ca_linked.specs.declared.parts.Body.{Body}
use Rattle.ca_linked.specs.declared.parts.Part.{Part}
use Rattle.ca_linked.specs.declared.parts.Body.TheVariants.{Gate, Scan}
use Rattle.ca_linked.specs.Linked.{LinkedChip, net_count, gate_inputs, gate_outputs, input_nets, output_nets, IsGate, IsWired}
use Rattle.ca_linked.specs.Instances.{IsCellOf}
use Rattle.ca_linked.proofs.OrderLemmas.{contained_at}
use Rattle.ca_view.specs.Core.{core_net, core_instance, core_of, rank_of}
use Rattle.ca_view.proofs.CoreLemmas.{IsOutside}
use Rattle.ca_view.proofs.CorePartLemmas.{core_at}
use Rattle.ca_view.proofs.CoreIsChip.{core_is}
use Rattle.ca_merged.specs.Cluster.{seat, net_seat, cluster_inputs, cluster_outputs, is_driven, input_count}
use Rattle.ca_merged.specs.Cluster.{output_count, is_fed}
use Rattle.ca_merged.proofs.Lists.{place_of, passing_distinct}
use Rattle.ca_merged.proofs.Seats.{seat_rail, seat_pin, seat_inner, seat_within, node_count_is}
use Rattle.ca_merge.specs.declared.pins.ClusterNets.{ClusterNets}
use Rattle.ca_merge.specs.Draft.{part_of, no_part, drives_net, reads_net, feeds_members, AreGates}
use Rattle.ca_merge.specs.Draft.{cluster_input_nets, cluster_output_nets}
use Rattle.ca_merge.specs.code.Pins.{AreClusterNets}
use Rattle.ca_merge.specs.code.Seats.{IsInHand, HasSeat, seat_of}
use Rattle.ca_merge.proofs.PinLemmas.{passing_more}
use Rattle.ca_merge.proofs.DraftLemmas.{gate_at, drives_at, reads_at, driven_data, read_data, driven_same}
use Rattle.ca_merge.proofs.DraftLemmas.{outputs_numbered, inputs_numbered}

-- the cell of an instance
pub cell_here : (chip : LinkedChip) (u : ℕ) (raw : RawCell) → IsSomeAnd (slice_get chip.parts u) (λ part. IsCellOf chip.cells part.body raw)
    → cell_at (core_of chip) u ≡ raw
cell_here chip u raw h = by (slice_get chip.parts u) refl h
  where
    of : (body : Body) → IsCellOf chip.cells body raw → (core_instance chip body).cell ≡ raw
    of (Gate cell inputs outputs) h = sym h
    of (Scan nets) h = absurd h

    by : (o : Option Part) → slice_get chip.parts u ≡ o → IsSomeAnd o (λ part. IsCellOf chip.cells part.body raw) → cell_at (core_of chip) u ≡ raw
    by None e h = absurd h
    by (Some part) e h = ap (λ (i : Instance). i.cell) (core_at chip u part e) ∙ of part.body h

-- the place of a number that passes, among those that do
rank_in : (p : ℕ → Bool) (n net : ℕ) → net < n → p net ≡ true
    → (length (filter p (range_with_len 0 net)) < length (filter p (range_with_len 0 n)))
    × (get_or (filter p (range_with_len 0 n)) (length (filter p (range_with_len 0 net))) 0 ≡ net)
rank_in p zero net lt h = absurd (omega arith)
rank_in p (suc n) net lt h =
    let xs = filter p (range_with_len 0 n) in
    let tail : List ℕ = if p n then n ∷ [] else [] in
    let more : filter p (range_with_len 0 (suc n)) ≡ filter p (range_with_len 0 n) ++ tail =
    ap (λ k. filter p (range_with_len 0 k)) (let e : suc n ≡ n + 1 = omega arith in e) ∙ passing_more p n in
    let l : length (filter p (range_with_len 0 (suc n))) ≡ length (filter p (range_with_len 0 n)) + length tail =
    ap (λ ys. length ys) more ∙ length-append (filter p (range_with_len 0 n)) tail in
    elim (cases_lt net n) [
      | inl less ↦
          let r = rank_in p n net less h in
          let r0 = r.0 in (
            omega arith,
            ap (λ ys. get_or ys (length (filter p (range_with_len 0 net))) 0) more
                ∙ get_or_append_left (filter p (range_with_len 0 n)) tail 0 (length (filter p (range_with_len 0 net))) r.0 ∙ r.1,
          )
      | inr ge ↦
          let e : net ≡ n = omega arith in
          let passes : p n ≡ true = ap p (sym e) ∙ h in
          let one : tail ≡ n ∷ [] = ap (λ b. if b then n ∷ [] else []) passes in
          let last : filter p (range_with_len 0 (suc n)) ≡ filter p (range_with_len 0 n) ++ n ∷ [] = more ∙ ap (λ t. filter p (range_with_len 0 n) ++ t) one in
          let here : length (filter p (range_with_len 0 n)) ≡ length (filter p (range_with_len 0 net)) = ap (λ k. length (filter p (range_with_len 0 k))) (sym e) in
          let two : length tail ≡ 1 = ap (λ t. length t) one in (
            omega arith,
            ap (λ ys. get_or ys (length (filter p (range_with_len 0 net))) 0) last
                ∙ get_or_push (filter p (range_with_len 0 n)) n 0 (length (filter p (range_with_len 0 net))) here ∙ sym e,
          )
    ]

module _ (chip : LinkedChip) (members : List ℕ) (is : IsWired chip) (gates : AreGates chip members) where
  -- the place of a listed net's number in the core
  listed_place : (p q : ℕ → Bool) (n m : ℕ) → map (core_net chip) (filter p (range_with_len 0 n)) ≡ filter q (range_with_len 0 m)
      → (net : ℕ) → net < n → p net ≡ true
      → position_or_len (eqb (core_net chip net)) (filter q (range_with_len 0 m)) ≡ length (filter p (range_with_len 0 net))
  listed_place p q n m numbered net lt h =
      let r = rank_in p n net lt h in
      let i = length (filter p (range_with_len 0 net)) in
      let l : length (filter q (range_with_len 0 m)) ≡ length (filter p (range_with_len 0 n)) =
      ap (λ xs. length xs) (sym numbered) ∙ length-map (filter p (range_with_len 0 n)) (core_net chip) in
      let at : get_or (filter q (range_with_len 0 m)) (length (filter p (range_with_len 0 net))) 0 ≡ core_net chip net =
      ap (λ xs. get_or xs (length (filter p (range_with_len 0 net))) 0) (sym numbered)
      ∙ get_or-map (core_net chip) (filter p (range_with_len 0 n)) (length (filter p (range_with_len 0 net))) 0 0 r.0 ∙ ap (core_net chip) r.1 in
      subst (λ x. position_or_len (eqb x) (filter q (range_with_len 0 m)) ≡ length (filter p (range_with_len 0 net))) at
      (place_of (filter q (range_with_len 0 m)) (length (filter p (range_with_len 0 net))) (passing_distinct q m 0) (let r0 = r.0 in omega arith))

  output_place : (net : ℕ) → drives_net chip members net ≡ true
      → position_or_len (eqb (core_net chip net)) (cluster_outputs (core_of chip) members) ≡ length (filter (drives_net chip members) (range_with_len 0 net))
  unfolding cluster_outputs cluster_output_nets
  output_place net h = listed_place (drives_net chip members) (is_driven (core_of chip) members) (net_count chip) (length (core_of chip).nets) (outputs_numbered chip members is gates) net (driven_data chip members is gates net h).0 h

  input_place : (net : ℕ) → feeds_members chip members net ≡ true → net < net_count chip
      → position_or_len (eqb (core_net chip net)) (cluster_inputs (core_of chip) members) ≡ length (filter (feeds_members chip members) (range_with_len 0 net))
  unfolding cluster_inputs cluster_input_nets
  input_place net h lt = listed_place (feeds_members chip members) (is_fed (core_of chip) members) (net_count chip) (length (core_of chip).nets) (inputs_numbered chip members is gates) net lt h

  pub inputs_counted : (nets : ClusterNets) → AreClusterNets chip members nets → length nets.inputs.nets ≡ input_count (core_of chip) members
  unfolding cluster_input_nets
  inputs_counted nets tables =
      ap (λ xs. length xs) tables.inputs.listed ∙ sym (length-map (cluster_input_nets chip members) (core_net chip))
      ∙ ap (λ xs. length xs) (inputs_numbered chip members is gates)

  pub outputs_counted : (nets : ClusterNets) → AreClusterNets chip members nets → length nets.outputs.nets ≡ output_count (core_of chip) members
  unfolding cluster_output_nets
  outputs_counted nets tables =
      ap (λ xs. length xs) tables.outputs.listed ∙ sym (length-map (cluster_output_nets chip members) (core_net chip))
      ∙ ap (λ xs. length xs) (outputs_numbered chip members is gates)

  -- the node of a net on a member's pin
  net_seat_is : (nets : ClusterNets) → AreClusterNets chip members nets → (net : ℕ) → (drives_net chip members net ≡ true) ⊎ (reads_net chip members net ≡ true)
      → net < net_count chip → IsOutside chip net → seat_of nets net ≡ net_seat (core_of chip) members (core_net chip net)
  unfolding net_seat
  net_seat_is nets tables net on lt outside = elim (cases_Bool (drives_net chip members net)) [
    | inl d ↦
        ap (λ b. if b then get_or nets.outputs.seats.items net 0 else get_or nets.inputs.seats.items net 0) (tables.driven.each net lt ∙ d)
        ∙ tables.outputs.each net lt
        ∙ (let p = output_place net d in let n = inputs_counted nets tables in omega arith)
        ∙ sym (ap (λ b. if b then 2 + input_count (core_of chip) members + position_or_len (eqb (core_net chip net)) (cluster_outputs (core_of chip) members)
        else 2 + position_or_len (eqb (core_net chip net)) (cluster_inputs (core_of chip) members)) (sym (driven_same chip members is gates net outside) ∙ d))
    | inr u ↦
        let r : reads_net chip members net ≡ true = elim on [ inl d ↦ absurd (let clash : true ≡ false = sym d ∙ u in cc) | inr r ↦ r ] in
        let f : feeds_members chip members net ≡ true = cc in
        ap (λ b. if b then get_or nets.outputs.seats.items net 0 else get_or nets.inputs.seats.items net 0) (tables.driven.each net lt ∙ u)
        ∙ tables.inputs.each net lt
        ∙ ap (λ k. 2 + k) (sym (input_place net f lt))
        ∙ sym (ap (λ b. if b then 2 + input_count (core_of chip) members + position_or_len (eqb (core_net chip net)) (cluster_outputs (core_of chip) members)
        else 2 + position_or_len (eqb (core_net chip net)) (cluster_inputs (core_of chip) members)) (sym (driven_same chip members is gates net outside) ∙ u))
  ]

module _ (chip : LinkedChip) (members : List ℕ) (nets : ClusterNets) (u start : ℕ) (is : IsWired chip) (hand : IsInHand chip members nets u start) where
  abbrev gates : AreGates chip members
  gates = hand.seated.gates

  pub known : u < length chip.parts
  known = (gate_at chip members is gates u hand.member).0

  is_gate : IsGate (part_of chip u).body
  is_gate = (gate_at chip members is gates u hand.member).1

  part_is : (part : Part) → slice_get chip.parts u ≡ Some part → part ≡ part_of chip u
  part_is part at = sym (get_or_from_slice_get chip.parts u part no_part at)

  -- the cell of the member
  pub cell_same : (raw : RawCell) → IsSomeAnd (slice_get chip.parts u) (λ part. IsCellOf chip.cells part.body raw) → cell_at (core_of chip) u ≡ raw
  cell_same raw h = cell_here chip u raw h

  -- the net of a pin
  record OnPin (pin net : ℕ) : Type 0 where
    here : net_of (core_of chip) u pin ≡ core_net chip net
    on : (drives_net chip members net ≡ true) ⊎ (reads_net chip members net ≡ true)

  on_pin : (part : Part) (pin net : ℕ) → slice_get chip.parts u ≡ Some part → slice_get (input_nets part.body ++ output_nets part.body) pin ≡ Some net → OnPin pin net
  on_pin part pin net at has = record {
    here = ap (λ (i : Instance). get_or i.pins pin 0) (core_at chip u part at) ∙ of part.body (subst (λ (p : Part). IsGate p.body) (sym (part_is part at)) is_gate) has;
    on = elim (Contains-append_cases (gate_inputs (part_of chip u).body) (gate_outputs (part_of chip u).body) net
        (listed (part_of chip u).body is_gate (subst (λ (p : Part). slice_get (input_nets p.body ++ output_nets p.body) pin ≡ Some net) (part_is part at) has))) [
          | inl i ↦ inr (reads_at chip members is gates u net hand.member i)
          | inr o ↦ inl (drives_at chip members is gates u net hand.member o)
        ];
  }
    where
      of : (body : Body) → IsGate body → slice_get (input_nets body ++ output_nets body) pin ≡ Some net → get_or (core_instance chip body).pins pin 0 ≡ core_net chip net
      of (Gate cell inputs outputs) g h =
          get_or-map (core_net chip) (inputs ++ outputs) pin 0 0 (slice_get_within (inputs ++ outputs) pin net h)
          ∙ ap (core_net chip) (get_or_from_slice_get (inputs ++ outputs) pin net 0 h)
      of (Scan nets) g h = absurd g

      listed : (body : Body) → IsGate body → slice_get (input_nets body ++ output_nets body) pin ≡ Some net → Contains (gate_inputs body ++ gate_outputs body) net
      listed (Gate cell inputs outputs) g h = contained_at (inputs ++ outputs) pin net h
      listed (Scan nets) g h = absurd g

  -- there is room for the node of each node
  pub seat_fits : (n : ℕ) → n < length (circuit_at (core_of chip) u).nodes → seat (core_of chip) members u n < 2 ^ 32
  seat_fits n lt =
      let w = seat_within (core_of chip) members (rank_of chip) (core_is chip is) hand.seated.are.known u n hand.member lt in
      let c = node_count_is (core_of chip) members in
      let f = hand.seated.few in
      omega arith

  pub outer_same : (raw : RawCell) (i o : ℕ) → IsSomeAnd (slice_get chip.parts u) (λ part. IsCellOf chip.cells part.body raw)
      → i ≡ role_count is_input raw.pins → o ≡ role_count is_output raw.pins → outer_count (core_of chip) u ≡ 2 + i + o
  outer_same raw i o of a b =
      ap (λ (r : RawCell). 2 + role_count is_input r.pins + role_count is_output r.pins) (cell_same raw of) ∙ omega arith

  pub rail_is : (n : ℕ) → n < 2 → n ≡ seat (core_of chip) members u n
  rail_is n lt = sym (seat_rail (core_of chip) members u n lt)

  pub pin_is : (raw : RawCell) (i o : ℕ) → IsSomeAnd (slice_get chip.parts u) (λ part. IsCellOf chip.cells part.body raw)
      → i ≡ role_count is_input raw.pins → o ≡ role_count is_output raw.pins
      → (n : ℕ) → 2 ≤ n → n < 2 + i + o → (part : Part) (net : ℕ) → slice_get chip.parts u ≡ Some part
      → slice_get (input_nets part.body ++ output_nets part.body) (n - 2) ≡ Some net → seat_of nets net ≡ seat (core_of chip) members u n
  pin_is raw i o of a b n ge lt part net at has =
      let p = on_pin part (n - 2) net at has in
      let data' : (net < net_count chip) × IsOutside chip net = elim p.on [
        | inl d ↦ driven_data chip members is gates net d
        | inr r ↦ read_data chip members is gates net r
      ] in
      let outer = outer_same raw i o of a b in
      net_seat_is chip members is gates nets hand.seated.tables net p.on data'.0 data'.1
      ∙ ap (net_seat (core_of chip) members) (sym p.here)
      ∙ sym (seat_pin (core_of chip) members u n (n - 2) (omega arith) (omega arith))

  pub pin_has_seat : (raw : RawCell) (i o : ℕ) → IsSomeAnd (slice_get chip.parts u) (λ part. IsCellOf chip.cells part.body raw)
      → i ≡ role_count is_input raw.pins → o ≡ role_count is_output raw.pins
      → (n : ℕ) → 2 ≤ n → n < 2 + i + o → n < length (circuit_at (core_of chip) u).nodes → (part : Part) (net : ℕ) → slice_get chip.parts u ≡ Some part
      → slice_get (input_nets part.body ++ output_nets part.body) (n - 2) ≡ Some net → HasSeat nets net
  pin_has_seat raw i o of a b n ge lt within part net at has =
      let p = on_pin part (n - 2) net at has in
      let data' : (net < net_count chip) × IsOutside chip net = elim p.on [
        | inl d ↦ driven_data chip members is gates net d
        | inr r ↦ read_data chip members is gates net r
      ] in
      let t = hand.seated.tables in
      record {
        marked = subst (λ k. net < k) (sym t.driven.room) data'.0;
        output = subst (λ k. net < k) (sym t.outputs.room) data'.0;
        input = subst (λ k. net < k) (sym t.inputs.room) data'.0;
        fits = subst (λ k. k < 2 ^ 32) (sym (pin_is raw i o of a b n ge lt part net at has)) (seat_fits n within);
      }

  pub inner_is : (raw : RawCell) (i o : ℕ) → IsSomeAnd (slice_get chip.parts u) (λ part. IsCellOf chip.cells part.body raw)
      → i ≡ role_count is_input raw.pins → o ≡ role_count is_output raw.pins → (n : ℕ) → 2 + i + o ≤ n
      → 2 + length nets.inputs.nets + length nets.outputs.nets + (start + (n - (2 + i + o))) ≡ seat (core_of chip) members u n
  inner_is raw i o of a b n ge =
      let outer = outer_same raw i o of a b in
      let ins = inputs_counted chip members is gates nets hand.seated.tables in
      let outs = outputs_counted chip members is gates nets hand.seated.tables in
      let before = hand.before in
      let at = seat_inner (core_of chip) members u n (n - (2 + i + o)) (omega arith) in
      omega arith
