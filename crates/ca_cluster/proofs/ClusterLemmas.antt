-- The cluster of a bridge.
use Rattle.std.proofs.Common.{◌≡◌, ℕ, ◌-◌, ◌<◌, List, [], ◌∷◌, ◌++◌, length, inl, inr, refl, sym, ◌∙◌, ap, subst}
use Rattle.std.proofs.Common.{arith, get_or, Option, Some, None}
use Rattle.std.specs.Prelude.{slice_get, IsSomeAnd, min, max}
use Rattle.std.proofs.lemmas.List.{length-append, get_or_append_left}
use Rattle.std.proofs.lemmas.Option.{slice_get-get_or}
use Rattle.ca_net.specs.declared.scale.TheConstants.{OUTPUT_NET}
use Rattle.ca_net.specs.declared.node.NodeKind.{NodeKind}
use Rattle.ca_net.specs.declared.node.NodeKind.TheVariants as node
use Rattle.ca_net.specs.Circuit.{Circuit, IsWellFormed}
use Rattle.ca_cell.specs.Rules.{KeepsRules}
use Rattle.ca_cell.specs.declared.defect.Defect.TheVariants.{Short}
use Rattle.ca_cell.specs.Defect as defects
use Rattle.ca_linked.specs.declared.parts.Body.{Body}
use Rattle.ca_linked.specs.Linked.{LinkedChip, IsWired, gate_inputs}
use Rattle.ca_linked.specs.Instances.{pin_nets}
use Rattle.ca_flat.specs.declared.chip_defect.ChipDefect.{ChipDefect}
use Rattle.ca_flat.specs.Chip.{Drives, inputs_at, outputs_at, net_of, net_kind, count_of}
use Rattle.ca_flat.specs.Flat.{flat, place}
use Rattle.ca_flat.specs.Chip as chips
use Rattle.ca_view.specs.Core.{core_of, rank_of}
use Rattle.ca_view.proofs.CoreIsChip.{core_is}
use Rattle.ca_flatten.specs.Few.{IsFew}
use Rattle.ca_view.proofs.CoreFacts.{inputs_are}
use Rattle.ca_view.proofs.PartFacts.{gate_at, some_at}
use Rattle.ca_merged.specs.Cluster.{seat, cluster_cell}
use Rattle.ca_merged.specs.Merged.{merged, cluster_place}
use Rattle.ca_merged.specs.Bridge.{bridged, node_id, HoldsBridge, short_of}
use Rattle.ca_merged.specs.Members.{IsDrivenEnd}
use Rattle.ca_merged.specs.Laws.{StandsFor}
use Rattle.ca_merged.proofs.Bridged.{bridged_is_well_formed_lem}
use Rattle.ca_merged.proofs.Ends.{merged_stands_for_lem}
use Rattle.ca_merged.proofs.Members.{cluster_holds_bridge_lem}
use Rattle.ca_merged.proofs.Shorts.{short_flat}
use Rattle.ca_merge.specs.Draft.{AreGates}
use Rattle.ca_merge.specs.Merge.{CanMerge, IsMergedOf}
use Rattle.ca_cluster.specs.declared.bridge.Bridge.{Bridge}
use Rattle.ca_cluster.specs.Bridges.{IsKnown}
use Rattle.ca_cluster.specs.Clusters.{IsPortEnd, AreMembersOf, IsInside, IsShortFor, IsMergedFor}
use Rattle.ca_cluster.specs.code.Hands.{IsInHand}
use Rattle.ca_cluster.specs.Laws.{MembersCanMerge, MergedIsFor}
use Rattle.ca_cluster.proofs.EndLemmas.{drives_end, port_end}
use Rattle.ca_cluster.proofs.MemberLemmas.{members_library}
use Rattle.ca_cluster.proofs.ShortLemmas.{last_library}

-- a short of the merged chip stands for the bridge
stands : (chip : chips.Chip) (bridge : Bridge) (members : List ℕ) (made : chips.Chip) (short : ChipDefect)
    → StandsFor chip members bridge.instance.0 bridge.m.0 bridge.n.0 → made ≡ merged chip members
    → short ≡ short_of chip members bridge.instance.0 bridge.m.0 bridge.n.0 → IsShortFor chip bridge made short
stands chip bridge members made short s same is =
    subst (λ c. IsShortFor chip bridge c short) (sym same)
    (subst (IsShortFor chip bridge (merged chip members)) (sym is) (record {
      rank = s.rank;
      flat_chip = s.flat_chip;
      same_inputs = s.same_inputs;
      same_outputs = s.same_outputs;
      good = s.good;
      faulty = s.faulty;
      detects = s.detects;
    }))

module _ (chip : LinkedChip) (is : IsWired chip) (bridge : Bridge) (known : IsKnown chip bridge) (inside : IsInside chip bridge) where
  abbrev core : chips.Chip
  core = core_of chip

  abbrev u : ℕ
  u = bridge.instance.0

  storage_is_input : (kind : NodeKind) → kind ≡ node.Input → kind ≡ node.Storage OUTPUT_NET → ⊥
  storage_is_input kind e f = let g : node.Input ≡ node.Storage OUTPUT_NET = sym e ∙ f in cc

  -- an input pin that is at no port is on a net that an instance drives
  driven_end : (n : ℕ) → (IsPortEnd core bridge.instance.0 n → ⊥) → IsDrivenEnd core bridge.instance.0 n
  driven_end n off pin =
      let g = gate_at chip bridge.instance.0 known.library in
      let count = inputs_are chip is bridge.instance.0 g.part g.at ∙ ap (λ (b : Body). length (gate_inputs b)) g.body in
      let low = pin.0 in let high = pin.1 in
      let lt : n - 2 < length g.inputs = omega arith in
      let on : slice_get (g.inputs ++ g.outputs) (n - 2) ≡ Some (get_or g.inputs (n - 2) 0) =
      slice_get-get_or (g.inputs ++ g.outputs) (n - 2) 0 (let l = length-append g.inputs g.outputs in omega arith)
      ∙ ap Some (get_or_append_left g.inputs g.outputs 0 (n - 2) lt) in
      let here : IsSomeAnd (slice_get chip.parts bridge.instance.0) (λ part. slice_get (pin_nets part.body) (n - 2) ≡ Some (get_or g.inputs (n - 2) 0)) =
      some_at (λ part. slice_get (pin_nets part.body) (n - 2) ≡ Some (get_or g.inputs (n - 2) 0)) chip.parts bridge.instance.0 g.part g.at
      (subst (λ (b : Body). slice_get (pin_nets b) (n - 2) ≡ Some (get_or g.inputs (n - 2) 0)) (sym g.body) on) in
      let c = core_is chip is in
      c.driven (net_of core bridge.instance.0 (n - 2))
      (c.on_nets bridge.instance.0 (n - 2) known.is_bridge.known (omega arith))
      (λ kind. off (port_end chip is bridge.instance.0 known.library n (get_or g.inputs (n - 2) 0) pin here (λ x h.
      let d = drives_end chip is bridge.instance.0 known.library n (get_or g.inputs (n - 2) 0) pin here x h in
      storage_is_input (net_kind core (net_of core bridge.instance.0 (n - 2))) kind (c.drives (net_of core bridge.instance.0 (n - 2)) d.1.0))))

  low_driven : IsDrivenEnd core bridge.instance.0 bridge.m.0
  low_driven = driven_end bridge.m.0 (λ p. inside.no_port (inl p))

  high_driven : IsDrivenEnd core bridge.instance.0 bridge.n.0
  high_driven = driven_end bridge.n.0 (λ p. inside.no_port (inr p))

  module _ (members : List ℕ) (are : AreMembersOf chip bridge members) where
    -- there is a member, since one end is an input pin
    some_member : 0 < length members
    some_member = elim known.is_bridge.pin [
      | inl pin ↦ let c = are.ends (low_driven pin).instance (inl (inl (pin, (low_driven pin, refl)))) in let lt = c.1 in omega arith
      | inr pin ↦ let c = are.ends (high_driven pin).instance (inl (inr (pin, (high_driven pin, refl)))) in let lt = c.1 in omega arith
    ]

    pub can_merge : AreGates chip members → CanMerge chip members
    can_merge gates = record { gates = gates; some = some_member; are = are.are }

    pub holds : KeepsRules (cluster_cell core members) → HoldsBridge core members bridge.instance.0 bridge.m.0 bridge.n.0
    holds keeps = cluster_holds_bridge_lem core (rank_of chip) members bridge.instance.0 bridge.m.0 bridge.n.0 (core_is chip is) known.is_bridge are low_driven high_driven
        inside.apart (λ rule other broken. keeps rule broken)

    -- the merged chip in hand
    pub in_hand : (made : LinkedChip) (last : ℕ) → IsMergedOf chip members made last → KeepsRules (cluster_cell core members) → IsInHand chip members made last
    in_hand made last is_merged keeps =
        record { gates = members_library chip is bridge known members are; are = are.are; keeps = keeps; merged = is_merged }

    formed : ((given : Option ChipDefect) → IsFew core given) → IsWellFormed (bridged core bridge.instance.0 bridge.m.0 bridge.n.0)
    formed few =
        let m = node_id bridge.m.0 in
        let n = node_id bridge.n.0 in
        let good = few None in
        let bad = few (Some (record { instance = bridge.instance.0; defect = Short (node_id bridge.m.0) (node_id bridge.n.0) })) in
        let e = ap (λ (c : Circuit). length c.devices) (short_flat core bridge.instance.0 (node_id bridge.m.0) (node_id bridge.n.0)) in
        let l = length-append (flat core None).devices
        (defects.bridge (node_id (place core bridge.instance.0 bridge.m.0)) (node_id (place core bridge.instance.0 bridge.n.0)) ∷ []) in
        let devices = bad.devices in
        bridged_is_well_formed_lem core (rank_of chip) bridge.instance.0 bridge.m.0 bridge.n.0 (core_is chip is) known.is_bridge good.nodes (omega arith)

    pub merged_for : (made : LinkedChip) (short : ChipDefect) → AreGates chip members → IsMergedOf chip members made short.instance → KeepsRules (cluster_cell core members)
        → ((given : Option ChipDefect) → IsFew core given)
        → short ≡ short_of core members bridge.instance.0 bridge.m.0 bridge.n.0 → IsMergedFor chip bridge members made short
    merged_for made short gates is_merged keeps few same = record {
      is = is_merged;
      keeps = keeps;
      library = last_library chip members made short.instance is (record { gates = gates; are = are.are; keeps = keeps; merged = is_merged });
      short_is = same;
      stands = stands core bridge members (core_of made) short
          (merged_stands_for_lem core (rank_of chip) members bridge.instance.0 bridge.m.0 bridge.n.0 (core_is chip is) known.is_bridge (formed few) (holds keeps))
          is_merged.core same;
    }

    pub merged_last : (made : LinkedChip) (last : ℕ) (short : ChipDefect) → AreGates chip members → IsMergedOf chip members made last → KeepsRules (cluster_cell core members)
        → ((given : Option ChipDefect) → IsFew core given)
        → short ≡ short_of core members bridge.instance.0 bridge.m.0 bridge.n.0 → IsMergedFor chip bridge members made short
    merged_last made last short gates is_merged keeps few same =
        let e : last ≡ short.instance = is_merged.place ∙ sym (ap (λ (s : ChipDefect). s.instance) same) in
        merged_for made short gates (subst (IsMergedOf chip members made) e is_merged) keeps few same

-- the short of both seats is that of the bridge
pub short_made : (chip : LinkedChip) (bridge : Bridge) (members : List ℕ) (last one other : ℕ) (short : ChipDefect) → last ≡ cluster_place (core_of chip) members
    → one ≡ seat (core_of chip) members bridge.instance.0 bridge.m.0 → other ≡ seat (core_of chip) members bridge.instance.0 bridge.n.0
    → short ≡ record { instance = last; defect = Short (record { 0 = min one other }) (record { 0 = max one other }) }
    → short ≡ short_of (core_of chip) members bridge.instance.0 bridge.m.0 bridge.n.0
short_made chip bridge members last one other short place low high is = cc

pub members_can_merge_lem : MembersCanMerge
members_can_merge_lem chip bridge members is known inside are = can_merge chip is bridge known inside members are (members_library chip is bridge known members are)

pub merged_is_for_lem : MergedIsFor
merged_is_for_lem chip bridge members made short is known inside are few is_merged keeps same =
    merged_for chip is bridge known inside members are made short (members_library chip is bridge known members are) is_merged keeps few same
