-- How large a cluster's cell is, and which rule it breaks first.
use Rattle.std.proofs.Common.{◌≡◌, ℕ, ◌+◌, ◌<◌, ◌≤◌, ◌^◌, List, [], ◌∷◌, ◌++◌, length, map, take, replicate}
use Rattle.std.proofs.Common.{inl, inr, refl, sym, ◌∙◌, ap, subst, arith, get_or}
use Rattle.std.specs.List.{Contains, sum_by}
use Rattle.std.proofs.lemmas.List.{length-map}
use Rattle.std.proofs.lemmas.List.Concat.{length-flat_map}
use Rattle.std.proofs.lemmas.List.Sums.{sum_by_more, sum_by-cons}
use Rattle.ca_cell.specs.declared.raw.Role.TheVariants.{Input, Output, Power, Ground}
use Rattle.ca_cell.specs.declared.raw.RawPin.{RawPin}
use Rattle.ca_cell.specs.declared.raw.RawDevice.{RawDevice}
use Rattle.ca_cell.specs.declared.raw.RawCell.{RawCell}
use Rattle.ca_cell.specs.declared.rule.CellRule.{CellRule}
use Rattle.ca_cell.specs.declared.rule.CellRule.TheVariants.{NoRail, TooManyDevices, TooManyNodes}
use Rattle.ca_cell.specs.declared.rule.CellRule.TheVariants.{TooManyInputs, NoOutput, TooManyOutputs, InputDrivesChannel}
use Rattle.ca_cell.specs.declared.rule.TheConstants.{MOST_DEVICES, MOST_NODES}
use Rattle.ca_cell.specs.Raw.{is_power, is_ground, role_count}
use Rattle.ca_cell.specs.Raw as raw
use Rattle.ca_cell.specs.Rules.{IsRaw, KeepsRules, Breaks, rank_of, IsFirstBroken, node_count}
use Rattle.ca_cell.proofs.CircuitLemmas.{few_nodes}
use Rattle.ca_cell.proofs.NodeLemmas.{few_devices}
use Rattle.ca_flat.specs.Chip.{cell_at}
use Rattle.ca_flat.specs.Flat.{inner_count}
use Rattle.ca_linked.specs.Linked.{LinkedChip, net_count, IsWired}
use Rattle.ca_view.specs.Core.{core_of}
use Rattle.ca_view.specs.Core as core
use Rattle.ca_view.proofs.CoreIsChip.{core_is}
use Rattle.ca_flat.specs.Chip as flat
use Rattle.ca_merged.specs.Cluster.{bare_pin, pins_of, input_count, output_count, seated, seated_devices, cluster_cell}
use Rattle.ca_merged.specs.Merged.{AreMembers}
use Rattle.ca_merged.proofs.Lists.{Rising, rising_head, rising_tail, cons_here, cons_there}
use Rattle.ca_merged.proofs.Pins.{role_cons}
use Rattle.ca_merged.proofs.Seats.{cluster_is_raw, nets_are, devices_are, node_count_is}
use Rattle.ca_merge.specs.declared.pins.ClusterNets.{ClusterNets}
use Rattle.ca_merge.specs.Draft.{AreGates, feeds_members, drives_net}
use Rattle.ca_merge.specs.code.Pins.{AreClusterNets}
use Rattle.ca_merge.specs.code.Seats.{AreSeated}
use Rattle.ca_merge.proofs.DraftLemmas.{gate_at}
use Rattle.ca_merge.proofs.PinLemmas.{passing_few}
use Rattle.ca_merge.proofs.SeatLemmas.{inputs_counted, outputs_counted}

-- ascending numbers below a bound are no more than that
rising_few : (xs : List ℕ) (a n : ℕ) → Rising xs → a ≤ n → ((u : ℕ) → Contains xs u → a ≤ u) → ((u : ℕ) → Contains xs u → u < n) → a + length xs ≤ n
rising_few [] a n rising base low high = omega arith
rising_few (x ∷ xs) a n rising base low high =
    let least = low x (cons_here x xs) in
    let most = high x (cons_here x xs) in
    let rest : (x + 1) + length xs ≤ n = rising_few xs (x + 1) n (rising_tail x xs rising) (omega arith)
    (λ u c. let r : x < u = rising_head x xs u rising c in omega arith) (λ u c. high u (cons_there x xs u c)) in
    omega arith

pub members_few : (chip : LinkedChip) (members : List ℕ) → IsWired chip → AreGates chip members → AreMembers (core_of chip) members → length members < 2 ^ 32
members_few chip members is gates are =
    let f = rising_few members 0 (length chip.parts) are.ascending (omega arith) (λ u c. omega arith) (λ u c. (gate_at chip members is gates u c).0) in
    let k = is.few_parts in
    omega arith

-- a cell that keeps the rules is small
pub devices_few : (cell : RawCell) → KeepsRules cell → length cell.devices ≤ 192
devices_few cell keeps = few_devices cell keeps

pub inner_few : (cell : RawCell) → KeepsRules cell → raw.inner_count cell ≤ 192
inner_few cell keeps = let f = few_nodes cell keeps in omega arith

-- a sum over members, with one more
pub sum_step : (f : ℕ → ℕ) (members : List ℕ) (k u now more : ℕ) → k < length members → u ≡ get_or members k 0 → now ≡ sum_by f (take k members)
    → more ≡ f u → now + more ≡ sum_by f (take (k + 1) members)
sum_step f members k u now more lt here was is =
    let m = sum_by_more f members k 0 lt in
    let e : more ≡ f (get_or members k 0) = is ∙ ap f here in
    omega arith

-- there are no more nets on pins than nets
pub nets_few : (chip : LinkedChip) (members : List ℕ) (nets : ClusterNets) → AreClusterNets chip members nets
    → (length nets.inputs.nets ≤ net_count chip) × (length nets.outputs.nets ≤ net_count chip)
nets_few chip members nets tables = (
  subst (λ xs. length xs ≤ net_count chip) (sym tables.inputs.listed) (passing_few (feeds_members chip members) (net_count chip)),
  subst (λ xs. length xs ≤ net_count chip) (sym tables.outputs.listed) (passing_few (drives_net chip members) (net_count chip)),
)

pub nodes_are : (chip : LinkedChip) (members : List ℕ) (nets : ClusterNets) (inner : ℕ) → IsWired chip → AreGates chip members → AreClusterNets chip members nets
    → inner ≡ sum_by (inner_count (core_of chip)) members
    → 2 + length nets.inputs.nets + length nets.outputs.nets + inner ≡ node_count (cluster_cell (core_of chip) members)
nodes_are chip members nets inner is gates tables e =
    let i = inputs_counted chip members is gates nets tables in
    let o = outputs_counted chip members is gates nets tables in
    let c = node_count_is (core_of chip) members in
    omega arith

raw_by : (chip : flat.Chip) (members : List ℕ) (pins : List RawPin) (nets : List (List ℕ)) (devices : List RawDevice)
    → pins ≡ pins_of (input_count chip members) (output_count chip members)
    → nets ≡ replicate (2 + input_count chip members + output_count chip members + sum_by (inner_count chip) members) []
    → devices ≡ seated_devices chip members members
    → (let made : RawCell = record { pins = pins; nets = nets; devices = devices } in made ≡ cluster_cell chip members)
unfolding cluster_cell
raw_by chip members pins nets devices a b c = cc

-- the subcircuit by its parts
pub raw_is : (chip : flat.Chip) (members : List ℕ) (pins : List RawPin) (nets : List (List ℕ)) (devices : List RawDevice) (i o n : ℕ)
    → pins ≡ pins_of i o → i ≡ input_count chip members → o ≡ output_count chip members → nets ≡ replicate n [] → n ≡ node_count (cluster_cell chip members)
    → devices ≡ seated_devices chip members members
    → (let made : RawCell = record { pins = pins; nets = nets; devices = devices } in made ≡ cluster_cell chip members)
raw_is chip members pins nets devices i o n p ei eo q en d =
    let count : n ≡ 2 + input_count chip members + output_count chip members + sum_by (inner_count chip) members = en ∙ node_count_is chip members in
    raw_by chip members pins nets devices (p ∙ ap (λ k. pins_of k o) ei ∙ ap (pins_of (input_count chip members)) eo) (q ∙ ap (λ k. replicate k []) count) d

-- a cluster that isn't too large is a subcircuit
pub small_is_raw : (chip : LinkedChip) (members : List ℕ) (nets : ClusterNets) (raw : RawCell) → IsWired chip → AreSeated chip members nets
    → length (cluster_cell (core_of chip) members).devices ≤ MOST_DEVICES → raw ≡ cluster_cell (core_of chip) members → IsRaw raw
small_is_raw chip members nets raw is seated few same =
    subst IsRaw (sym same)
    (let c = node_count_is (core_of chip) members in
    let n = nets_are (core_of chip) members in
    let f = seated.few in
    cluster_is_raw (core_of chip) members (core.rank_of chip) (core_is chip is) seated.are.known (omega arith) (omega arith))

sum_same : (f g : ℕ → ℕ) → ((u : ℕ) → f u ≡ g u) → (xs : List ℕ) → sum_by f xs ≡ sum_by g xs
sum_same f g same [] = refl
sum_same f g same (x ∷ xs) = let a = sum_by-cons f x xs in let b = sum_by-cons g x xs in let r = sum_same f g same xs in let e = same x in omega arith

-- the number of its devices
pub devices_counted : (chip : flat.Chip) (members : List ℕ) → length (cluster_cell chip members).devices ≡ sum_by (λ u. length (cell_at chip u).devices) members
devices_counted chip members =
    ap (λ xs. length xs) (devices_are chip members)
    ∙ length-flat_map (λ u. map (seated chip members u) (cell_at chip u).devices) members
    ∙ sum_same (λ u. length (map (seated chip members u) (cell_at chip u).devices)) (λ u. length (cell_at chip u).devices)
    (λ u. length-map (cell_at chip u).devices (seated chip members u)) members

-- it has power and ground
powered : (i o : ℕ) → 0 < role_count is_power (pins_of i o)
powered i o =
    let a = role_cons is_power (bare_pin Power) (bare_pin Ground ∷ (replicate i (bare_pin Input) ++ replicate o (bare_pin Output))) in
    omega arith

grounded : (i o : ℕ) → 0 < role_count is_ground (pins_of i o)
grounded i o =
    let a = role_cons is_ground (bare_pin Power) (bare_pin Ground ∷ (replicate i (bare_pin Input) ++ replicate o (bare_pin Output))) in
    let b = role_cons is_ground (bare_pin Ground) (replicate i (bare_pin Input) ++ replicate o (bare_pin Output)) in
    omega arith

rails : (chip : flat.Chip) (members : List ℕ) → Breaks (cluster_cell chip members) NoRail → ⊥
unfolding cluster_cell
rails chip members (inl none) = let p = powered (input_count chip members) (output_count chip members) in omega arith
rails chip members (inr none) = let g = grounded (input_count chip members) (output_count chip members) in omega arith

-- many devices are the first rule that is broken, and many nodes after them
pub many_devices : (chip : flat.Chip) (members : List ℕ) (count : ℕ) → count ≡ length (cluster_cell chip members).devices → MOST_DEVICES < count
    → IsFirstBroken (cluster_cell chip members) (TooManyDevices count)
many_devices chip members count is many = record {
  broken = (is, many);
  none_before = before;
}
  where
    before : (other : CellRule) → rank_of other < 1 → Breaks (cluster_cell chip members) other → ⊥
    before NoRail lt broken = rails chip members broken
    before (TooManyDevices c) lt broken = omega arith
    before (TooManyNodes c) lt broken = omega arith
    before (TooManyInputs c) lt broken = omega arith
    before NoOutput lt broken = omega arith
    before (TooManyOutputs c) lt broken = omega arith
    before (InputDrivesChannel p d) lt broken = omega arith

pub many_nodes : (chip : flat.Chip) (members : List ℕ) (count : ℕ) → count ≡ node_count (cluster_cell chip members) → MOST_NODES < count
    → length (cluster_cell chip members).devices ≤ MOST_DEVICES → IsFirstBroken (cluster_cell chip members) (TooManyNodes count)
many_nodes chip members count is many few = record {
  broken = (is, many);
  none_before = before;
}
  where
    before : (other : CellRule) → rank_of other < 2 → Breaks (cluster_cell chip members) other → ⊥
    before NoRail lt broken = rails chip members broken
    before (TooManyDevices c) lt broken = let a = broken.0 in let b = broken.1 in omega arith
    before (TooManyNodes c) lt broken = omega arith
    before (TooManyInputs c) lt broken = omega arith
    before NoOutput lt broken = omega arith
    before (TooManyOutputs c) lt broken = omega arith
    before (InputDrivesChannel p d) lt broken = omega arith
