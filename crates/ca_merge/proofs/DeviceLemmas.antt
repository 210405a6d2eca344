-- The devices of a cluster, as the code makes them.
use Rattle.std.proofs.Common.{◌≡◌, ℕ, ◌+◌, ◌-◌, ◌<◌, ◌≤◌, List, [], ◌∷◌, ◌++◌, length, map, take}
use Rattle.std.proofs.Common.{sym, ◌∙◌, ap, subst, arith, get_or, Option, Some}
use Rattle.std.specs.Prelude.{slice_get, IsSomeAnd}
use Rattle.std.specs.List.{Contains, sum_by}
use Rattle.std.proofs.lemmas.List.{get_or-map, map_more, take_more, append-nil, append_assoc}
use Rattle.std.proofs.lemmas.List.Concat.{flat_map-append}
use Rattle.std.proofs.lemmas.List.Sums.{sum_by_more, sum_by-take-le}
use Rattle.std.proofs.lemmas.Option.{slice_get-get_or, get_or_from_slice_get}
use Rattle.ca_net.specs.declared.device.Device.{Device}
use Rattle.ca_cell.specs.declared.raw.RawCell.{RawCell}
use Rattle.ca_cell.specs.declared.raw.RawDevice.{RawDevice}
use Rattle.ca_cell.specs.declared.rule.TheConstants.{MOST_NODES}
use Rattle.ca_cell.specs.Raw.{is_input, is_output, role_count, node_of, device_of, circuit_of}
use Rattle.ca_cell.specs.Raw as raw
use Rattle.ca_cell.specs.Rules.{IsRaw, PlacesWithin, node_count}
use Rattle.ca_cell.proofs.CircuitLemmas.{length-nodes_of, node_of-within}
use Rattle.ca_flat.specs.Chip.{cell_at}
use Rattle.ca_flat.specs.Flat.{inner_count}
use Rattle.ca_linked.specs.Linked.{LinkedChip}
use Rattle.ca_view.specs.Core.{core_of}
use Rattle.ca_merged.specs.Blocks.{block_start}
use Rattle.ca_merged.specs.Cluster.{seat, seated, seated_devices}
use Rattle.ca_merged.proofs.Lists.{ascending_distinct, get_or_contains}
use Rattle.ca_merged.proofs.Blocks.{start_take}
use Rattle.ca_merged.proofs.Seats.{node_count_is}
use Rattle.ca_merge.specs.declared.pins.ClusterNets.{ClusterNets}
use Rattle.ca_merge.specs.code.Seats.{AreSeated, IsInHand}

-- the terminals of a transistor in the cell's network
pub record Terminals (cell : RawCell) (x : RawDevice) (device : Device) : Type 0 where
  pub drain : device.a.0 ≡ node_of cell.pins x.drain
  pub gate : device.gate.0 ≡ node_of cell.pins x.gate
  pub source : device.b.0 ≡ node_of cell.pins x.source
  pub places : PlacesWithin (length cell.nets) x

pub terminals : (cell : RawCell) (d : ℕ) (x : RawDevice) (device : Device) → IsRaw cell → d < length cell.devices → x ≡ get_or cell.devices d x
    → slice_get (map (device_of cell.pins) cell.devices) d ≡ Some device → Terminals cell x device
terminals cell d x device is_raw lt here at =
    let e : device ≡ device_of cell.pins x =
    sym (get_or_from_slice_get (map (device_of cell.pins) cell.devices) d device device at)
    ∙ get_or-map (device_of cell.pins) cell.devices d x device lt ∙ ap (device_of cell.pins) (sym here) in
    record {
      drain = ap (λ (dev : Device). dev.a.0) e;
      gate = ap (λ (dev : Device). dev.gate.0) e;
      source = ap (λ (dev : Device). dev.b.0) e;
      places = subst (PlacesWithin (length cell.nets)) (sym here) (is_raw.places d x lt);
    }

-- a terminal is a node of the cell
pub node_within : (cell of : RawCell) (place n : ℕ) → IsRaw cell → of ≡ cell → place < length cell.nets → n ≡ node_of cell.pins place
    → n < length (circuit_of of).nodes
node_within cell of place n is_raw same lt e =
    subst (λ (c : RawCell). n < length (circuit_of c).nodes) (sym same)
    (subst (λ k. k < length (circuit_of cell).nodes) (sym e)
    (subst (λ k. node_of cell.pins place < k) (sym (length-nodes_of cell)) (node_of-within cell place is_raw lt)))

-- the device on its nodes of the cluster
pub seated_is : (chip : LinkedChip) (members : List ℕ) (u d : ℕ) (cell : RawCell) (x result : RawDevice) (device : Device) (drain gate source : ℕ)
    → cell_at (core_of chip) u ≡ cell → d < length cell.devices → x ≡ get_or cell.devices d x → Terminals cell x device
    → drain ≡ seat (core_of chip) members u device.a.0 → gate ≡ seat (core_of chip) members u device.gate.0
    → source ≡ seat (core_of chip) members u device.b.0
    → result ≡ record x { name = []; drain = drain; gate = gate; source = source }
    → IsSomeAnd (slice_get (cell_at (core_of chip) u).devices d) (λ raw. result ≡ seated (core_of chip) members u raw)
seated_is chip members u d cell x result device drain gate source same lt here at dr ga so is =
    let dr2 : drain ≡ seat (core_of chip) members u (node_of (cell_at (core_of chip) u).pins x.drain) =
    dr ∙ ap (seat (core_of chip) members u) (at.drain ∙ ap (λ (c : RawCell). node_of c.pins x.drain) (sym same)) in
    let ga2 : gate ≡ seat (core_of chip) members u (node_of (cell_at (core_of chip) u).pins x.gate) =
    ga ∙ ap (seat (core_of chip) members u) (at.gate ∙ ap (λ (c : RawCell). node_of c.pins x.gate) (sym same)) in
    let so2 : source ≡ seat (core_of chip) members u (node_of (cell_at (core_of chip) u).pins x.source) =
    so ∙ ap (seat (core_of chip) members u) (at.source ∙ ap (λ (c : RawCell). node_of c.pins x.source) (sym same)) in
    let all : result ≡ seated (core_of chip) members u x =
    is ∙ ap (λ k. let r : RawDevice = record x { name = []; drain = k; gate = gate; source = source } in r) dr2
    ∙ ap (λ k. let r : RawDevice = record x { name = []; drain = seat (core_of chip) members u (node_of (cell_at (core_of chip) u).pins x.drain); gate = k; source = source } in r) ga2
    ∙ ap (λ k. let r : RawDevice = record x {
      name = [];
      drain = seat (core_of chip) members u (node_of (cell_at (core_of chip) u).pins x.drain);
      gate = seat (core_of chip) members u (node_of (cell_at (core_of chip) u).pins x.gate);
      source = k;
    } in r) so2 in
    subst (λ (o : Option RawDevice). IsSomeAnd o (λ raw. result ≡ seated (core_of chip) members u raw))
    (sym (ap (λ (c : RawCell). slice_get c.devices d) same ∙ slice_get-get_or cell.devices d x lt ∙ ap Some (sym here))) all

-- one more device
pub seated_more : (f : RawDevice → RawDevice) (xs old now new : List RawDevice) (d : ℕ) (result : RawDevice) → d < length xs
    → IsSomeAnd (slice_get xs d) (λ raw. result ≡ f raw) → now ≡ old ++ map f (take d xs) → new ≡ now ++ result ∷ []
    → new ≡ old ++ map f (take (d + 1) xs)
seated_more f xs old now new d result lt is before grown =
    let one : result ≡ f (get_or xs d result) =
    subst (λ (o : Option RawDevice). IsSomeAnd o (λ raw. result ≡ f raw)) (slice_get-get_or xs d result lt) is in
    grown ∙ ap (λ ys. ys ++ result ∷ []) before ∙ append_assoc old (map f (take d xs)) (result ∷ [])
    ∙ ap (λ y. old ++ (map f (take d xs) ++ y ∷ [])) one ∙ ap (λ ys. old ++ ys) (sym (map_more f xs d result lt))

-- the inner nodes of a member's cell
pub inner_same : (chip : LinkedChip) (u : ℕ) (cell : RawCell) → cell_at (core_of chip) u ≡ cell → inner_count (core_of chip) u ≡ raw.inner_count cell
inner_same chip u cell same =
    let l : length (circuit_of cell).nodes ≡ node_count cell = length-nodes_of cell in
    let c : inner_count (core_of chip) u ≡ length (circuit_of cell).nodes - (2 + role_count is_input cell.pins + role_count is_output cell.pins) =
    ap (λ (r : RawCell). length (circuit_of r).nodes - (2 + role_count is_input r.pins + role_count is_output r.pins)) same in
    omega arith

module _ (chip : LinkedChip) (members : List ℕ) (nets : ClusterNets) (seats : AreSeated chip members nets) (k u start : ℕ) (lt : k < length members)
    (here : u ≡ get_or members k 0) (before : start ≡ sum_by (inner_count (core_of chip)) (take k members)) where
  pub in_hand : IsInHand chip members nets u start
  in_hand = record {
    seated = seats;
    member = subst (Contains members) (sym here) (get_or_contains members k lt);
    before = before
        ∙ sym (start_take (inner_count (core_of chip)) members k (ascending_distinct members seats.are.ascending) lt)
        ∙ ap (block_start (inner_count (core_of chip)) members) (sym here);
  }

  pub start_more : start + inner_count (core_of chip) u ≡ sum_by (inner_count (core_of chip)) (take (k + 1) members)
  start_more =
      let m = sum_by_more (inner_count (core_of chip)) members k 0 lt in
      let e : inner_count (core_of chip) u ≡ inner_count (core_of chip) (get_or members k 0) = ap (inner_count (core_of chip)) here in
      omega arith

  pub start_few : start + inner_count (core_of chip) u ≤ MOST_NODES
  start_few =
      let m = start_more in
      let le = sum_by-take-le (inner_count (core_of chip)) members (k + 1) in
      let c = node_count_is (core_of chip) members in
      let f = seats.few in
      omega arith

  pub devices_more : (now new : List RawDevice) → now ≡ seated_devices (core_of chip) members (take k members)
      → new ≡ now ++ map (seated (core_of chip) members u) (cell_at (core_of chip) u).devices
      → new ≡ seated_devices (core_of chip) members (take (k + 1) members)
  devices_more now new was grown =
      grown ∙ ap (λ xs. xs ++ map (seated (core_of chip) members u) (cell_at (core_of chip) u).devices) was
      ∙ ap (λ x. seated_devices (core_of chip) members (take k members) ++ map (seated (core_of chip) members x) (cell_at (core_of chip) x).devices) here
      ∙ ap (λ xs. seated_devices (core_of chip) members (take k members) ++ xs)
      (sym (append-nil (map (seated (core_of chip) members (get_or members k 0)) (cell_at (core_of chip) (get_or members k 0)).devices)))
      ∙ sym (flat_map-append (λ w. map (seated (core_of chip) members w) (cell_at (core_of chip) w).devices) (take k members) (get_or members k 0 ∷ []))
      ∙ ap (seated_devices (core_of chip) members) (sym (take_more members k 0 lt))
