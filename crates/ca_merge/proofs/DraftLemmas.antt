-- The core of the draft of a merged chip.
use Rattle.std.proofs.Common.{◌≡◌, ℕ, zero, suc, ◌+◌, ◌<◌, ◌⊎◌, List, [], ◌∷◌, ◌++◌, length, map, Bool, true}
use Rattle.std.proofs.Common.{false, inl, inr, refl, sym, ◌∙◌, ap, subst, arith, get_or, Option, Some, None}
use Rattle.std.specs.Prelude.{not, ◌&&◌, ◌||◌, slice_get, if◌then◌else◌, IsSomeAnd, option_to_list}
use Rattle.std.specs.List.{Contains, list_any, filter, flat_map, range_with_len}
use Rattle.std.proofs.lemmas.Bool.{cases_lt, cases_Bool, and_parts, not-false, not_from_false}
use Rattle.std.proofs.lemmas.Bool.{or_cases, or_left, or_right, false≢true}
use Rattle.std.proofs.lemmas.List.{length-map, get_or_append_left, get_or_push, get_or_past, map-append}
use Rattle.std.proofs.lemmas.List.{get_or_default, append-nil}
use Rattle.std.proofs.lemmas.List.Concat.{flat_map-append}
use Rattle.std.proofs.lemmas.List.Elements.{Contains-append_left, Contains-append_right}
use Rattle.std.proofs.lemmas.List.Folds.{Any-from_list_any, list_any_at, list_any-append}
use Rattle.std.proofs.lemmas.Option.{slice_get-get_or, slice_get_within, get_or_from_slice_get}
use Rattle.ca_net.specs.declared.node.NodeKind.{NodeKind}
use Rattle.ca_net.specs.declared.node.NodeKind.TheVariants as node
use Rattle.ca_net.specs.declared.scale.TheConstants.{OUTPUT_NET}
use Rattle.ca_cell.specs.declared.rule.CellRule.TheVariants.{NoRail}
use Rattle.ca_cell.specs.Raw.{is_input, is_output, role_count}
use Rattle.ca_cell.specs.Rules.{Breaks}
use Rattle.ca_linked.specs.declared.parts.Body.{Body}
use Rattle.ca_linked.specs.declared.parts.Part.{Part}
use Rattle.ca_linked.specs.declared.parts.PortBit.{PortBit}
use Rattle.ca_linked.specs.declared.parts.Body.TheVariants.{Gate, Scan}
use Rattle.ca_linked.specs.Linked.{LinkedChip, net_count, has, path_nets, data_nets, is_scan_path, gate_inputs}
use Rattle.ca_linked.specs.Linked.{gate_outputs, IsGate, IsBody, IsGateOf, IsWired, cell_of, no_cell, port_nets}
use Rattle.ca_linked.specs.Linked.{q_nets, d_nets, inputs_of, outputs_of}
use Rattle.ca_linked.proofs.PartLemmas.{has_contains, contains_has}
use Rattle.ca_flat.specs.Chip.{Instance, Constant, instance_at, cell_at, inputs_at, outputs_at, net_of, output_net}
use Rattle.ca_flat.specs.Chip.{count_of}
use Rattle.ca_flat.specs.Chip as flat
use Rattle.ca_view.specs.Core.{core_net, core_kinds, stored_nets, kind_of, core_instance, core_of, constant_on}
use Rattle.ca_view.specs.Core.{trit_of, core_constants, in_net_order}
use Rattle.ca_view.proofs.CoreLemmas.{IsOutside, core_less, core_same, length-core_kinds, net_of_number}
use Rattle.ca_view.proofs.CorePartLemmas.{core_at, stored_count, stored_pin, read_count, read_pin, stored_is_data}
use Rattle.ca_view.proofs.CorePartLemmas.{read_is_data}
use Rattle.ca_view.proofs.CoreIsChip.{body_of, data_within, data_outside, number_within}
use Rattle.ca_merged.specs.Cluster.{is_member, is_driven, is_read, is_fed, cluster_inputs, cluster_outputs}
use Rattle.ca_merged.specs.Cluster.{cluster_cell}
use Rattle.ca_merged.specs.Merged.{others, cluster_of, merged}
use Rattle.ca_merged.proofs.Lists.{rising_same, passing_rising, passing_holds, passing_listed}
use Rattle.ca_merged.proofs.Lists.{listed_contains, get_or_contains}
use Rattle.ca_merged.proofs.Nets.{driven_by, is_driven_at, read_by, is_read_at}
use Rattle.ca_merged.proofs.Seats.{Contains-map, map-Contains}
use Rattle.ca_merge.specs.Draft.{no_part, part_of, drives_net, reads_net, feeds_members, cluster_input_nets}
use Rattle.ca_merge.specs.Draft.{cluster_output_nets, cluster_part, other_parts, merged_draft, AreGates}
use Rattle.ca_merge.specs.Laws.{DraftCoreIsMerged}
use Rattle.ca_merge.proofs.ListLemmas.{same_bool, map_within, map_map, map_same, flat_same, flat_of_map}
use Rattle.ca_merge.proofs.ListLemmas.{flat_filter, list_is_map, rising_map}

pub same_chip : (a x : List NodeKind) (b y : List Instance) (c z : List ℕ) (d v : List Constant) (e w : List ℕ)
    → a ≡ x → b ≡ y → c ≡ z → d ≡ v → e ≡ w
    → (let one : flat.Chip = record { nets = a; instances = b; inputs = c; constants = d; outputs = e } in
    let other : flat.Chip = record { nets = x; instances = y; inputs = z; constants = v; outputs = w } in one ≡ other)
same_chip a x b y c z d v e w p q r s t = cc

module _ (chip : LinkedChip) (members : List ℕ) where
  abbrev pub m : LinkedChip
  m = merged_draft chip members

  abbrev pub places : List ℕ
  places = filter (λ u. not (is_member members u)) (range_with_len 0 (length chip.parts))

  pub parts_are : m.parts ≡ other_parts chip members ++ (cluster_part chip members ∷ [])
  unfolding merged_draft
  parts_are = refl

  pub ports_are : m.ports ≡ chip.ports
  unfolding merged_draft
  ports_are = refl

  pub nets_are : m.nets ≡ chip.nets
  unfolding merged_draft
  nets_are = refl

  pub zero_is : m.zero ≡ chip.zero
  unfolding merged_draft
  zero_is = refl

  pub one_is : m.one ≡ chip.one
  unfolding merged_draft
  one_is = refl

  pub cells_are : m.cells ≡ chip.cells ++ (cluster_cell (core_of chip) members ∷ [])
  unfolding merged_draft
  cells_are = refl

  pub at_place : (u : ℕ) → u < length chip.parts → slice_get chip.parts u ≡ Some (part_of chip u)
  at_place u lt = slice_get-get_or chip.parts u no_part lt

  -- a test that some instance of the draft passes
  pub part_passes : (test : Part → Bool) → list_any test m.parts ≡ true
      → ((u : ℕ) × Contains places u × (test (part_of chip u) ≡ true)) ⊎ (test (cluster_part chip members) ≡ true)
  part_passes test h =
      let e : list_any test m.parts ≡ (list_any test (other_parts chip members) || list_any test (cluster_part chip members ∷ [])) =
      ap (list_any test) parts_are ∙ list_any-append test (other_parts chip members) (cluster_part chip members ∷ []) in
      elim (or_cases (list_any test (other_parts chip members)) (list_any test (cluster_part chip members ∷ [])) (sym e ∙ h)) [
        | inl o ↦
            let a = Any-from_list_any test (other_parts chip members) o in
            let x = map-Contains (part_of chip) places a.1 (a.0, a.2, a.3) in
            inl (x.0, x.1, ap test x.2 ∙ a.4)
        | inr c ↦ elim (or_cases (test (cluster_part chip members)) false c) [
          | inl t ↦ inr t
          | inr f ↦ absurd (false≢true f)
        ]
      ]

  pub other_passes : (test : Part → Bool) (u : ℕ) → Contains places u → test (part_of chip u) ≡ true → list_any test m.parts ≡ true
  other_passes test u c h =
      let k = Contains-map (part_of chip) places u c in
      ap (list_any test) parts_are ∙ list_any-append test (other_parts chip members) (cluster_part chip members ∷ [])
      ∙ or_left (list_any test (other_parts chip members)) (list_any test (cluster_part chip members ∷ []))
      (list_any_at test (other_parts chip members) k.0 (part_of chip u) k.1 (ap test k.2 ∙ h))

  pub cluster_passes : (test : Part → Bool) → test (cluster_part chip members) ≡ true → list_any test m.parts ≡ true
  cluster_passes test h =
      ap (list_any test) parts_are ∙ list_any-append test (other_parts chip members) (cluster_part chip members ∷ [])
      ∙ or_right (list_any test (other_parts chip members)) (list_any test (cluster_part chip members ∷ []))
      (or_left (test (cluster_part chip members)) false h)

  pub chip_passes : (test : Part → Bool) → list_any test chip.parts ≡ true → (u : ℕ) × (u < length chip.parts) × (test (part_of chip u) ≡ true)
  chip_passes test h =
      let a = Any-from_list_any test chip.parts h in
      (a.0, a.2, ap test (get_or_default chip.parts a.0 no_part a.1 a.2 ∙ a.3) ∙ a.4)

  pub passes_chip : (test : Part → Bool) (u : ℕ) → u < length chip.parts → test (part_of chip u) ≡ true → list_any test chip.parts ≡ true
  passes_chip test u lt h = list_any_at test chip.parts u no_part lt h

  pub place_within : (u : ℕ) → Contains places u → u < length chip.parts
  place_within u c = let p = passing_holds (λ u. not (is_member members u)) (length chip.parts) 0 u c in omega (arith, p.1)

  pub place_listed : (u : ℕ) → u < length chip.parts → is_member members u ≡ false → Contains places u
  place_listed u lt out =
      passing_listed (λ u. not (is_member members u)) (length chip.parts) 0 u (omega arith) (omega arith) (not_from_false (is_member members u) out)

  module _ (is : IsWired chip) (gates : AreGates chip members) where
    pub gate_at : (u : ℕ) → Contains members u → (u < length chip.parts) × IsGate (part_of chip u).body
    gate_at u c = by (slice_get chip.parts u) refl (gates u c)
      where
        by : (o : Option Part) → slice_get chip.parts u ≡ o → IsSomeAnd o (λ part. IsGate part.body) → (u < length chip.parts) × IsGate (part_of chip u).body
        by None e h = absurd h
        by (Some part) e h = (slice_get_within chip.parts u part e, subst (λ (p : Part). IsGate p.body) (sym (get_or_from_slice_get chip.parts u part no_part e)) h)

    -- a library instance is off the scan path, and stores what it drives
    pub no_path : (body : Body) (net : ℕ) → IsGate body → has (path_nets body) net ≡ true → ⊥
    no_path (Gate cell inputs outputs) net g h = false≢true h
    no_path (Scan nets) net g h = absurd g

    pub no_q : (body : Body) → IsGate body → q_nets body ≡ []
    no_q (Gate cell inputs outputs) g = refl
    no_q (Scan nets) g = absurd g

    pub no_d : (body : Body) → IsGate body → d_nets body ≡ []
    no_d (Gate cell inputs outputs) g = refl
    no_d (Scan nets) g = absurd g

    pub stored_is_output : (body : Body) → IsGate body → stored_nets body ≡ gate_outputs body
    stored_is_output (Gate cell inputs outputs) g = refl
    stored_is_output (Scan nets) g = absurd g

    pub output_is_stored : (body : Body) (net : ℕ) → has (gate_outputs body) net ≡ true → has (stored_nets body) net ≡ true
    output_is_stored (Gate cell inputs outputs) net h = h
    output_is_stored (Scan nets) net h = absurd (false≢true h)

    pub output_is_data : (body : Body) (net : ℕ) → Contains (gate_outputs body) net → Contains (data_nets body) net
    output_is_data (Gate cell inputs outputs) net h = Contains-append_right inputs outputs net h
    output_is_data (Scan nets) net h = absurd (omega (arith, h.1))

    pub input_is_data : (body : Body) (net : ℕ) → Contains (gate_inputs body) net → Contains (data_nets body) net
    input_is_data (Gate cell inputs outputs) net h = Contains-append_left inputs outputs net h
    input_is_data (Scan nets) net h = absurd (omega (arith, h.1))

    pub path_same : (net : ℕ) → is_scan_path m net ≡ is_scan_path chip net
    path_same net = same_bool (is_scan_path m net) (is_scan_path chip net)
        (λ h. elim (part_passes (λ (part : Part). has (path_nets part.body) net) h) [
          | inl o ↦ passes_chip (λ (part : Part). has (path_nets part.body) net) o.0 (place_within o.0 o.1) o.2
          | inr c ↦ absurd (false≢true c)
        ])
        (λ h.
        let c = chip_passes (λ (part : Part). has (path_nets part.body) net) h in
        elim (cases_Bool (is_member members c.0)) [
          | inl e ↦ absurd (no_path (part_of chip c.0).body net (gate_at c.0 (listed_contains members c.0 e)).1 c.2)
          | inr e ↦ other_passes (λ (part : Part). has (path_nets part.body) net) c.0 (place_listed c.0 c.1 e) c.2
        ])

    -- a net that a member drives
    pub drives_from : (net : ℕ) → drives_net chip members net ≡ true → (u : ℕ) × Contains members u × Contains (gate_outputs (part_of chip u).body) net
    drives_from net h =
        let a = Any-from_list_any (λ u. has (gate_outputs (part_of chip u).body) net) members h in
        (a.1, (a.0, a.2, a.3), has_contains (gate_outputs (part_of chip a.1).body) net a.4)

    pub drives_at : (u net : ℕ) → Contains members u → Contains (gate_outputs (part_of chip u).body) net → drives_net chip members net ≡ true
    drives_at u net c h =
        list_any_at (λ u. has (gate_outputs (part_of chip u).body) net) members c.0 u c.1
        (ap (λ x. has (gate_outputs (part_of chip x).body) net) c.2 ∙ contains_has (gate_outputs (part_of chip u).body) net h)

    pub reads_from : (net : ℕ) → reads_net chip members net ≡ true → (u : ℕ) × Contains members u × Contains (gate_inputs (part_of chip u).body) net
    reads_from net h =
        let a = Any-from_list_any (λ u. has (gate_inputs (part_of chip u).body) net) members h in
        (a.1, (a.0, a.2, a.3), has_contains (gate_inputs (part_of chip a.1).body) net a.4)

    pub reads_at : (u net : ℕ) → Contains members u → Contains (gate_inputs (part_of chip u).body) net → reads_net chip members net ≡ true
    reads_at u net c h =
        list_any_at (λ u. has (gate_inputs (part_of chip u).body) net) members c.0 u c.1
        (ap (λ x. has (gate_inputs (part_of chip x).body) net) c.2 ∙ contains_has (gate_inputs (part_of chip u).body) net h)

    pub data_at : (u net : ℕ) → u < length chip.parts → Contains (data_nets (part_of chip u).body) net → (net < net_count chip) × IsOutside chip net
    data_at u net lt h = (data_within chip is u (part_of chip u) net (at_place u lt) h, data_outside chip is u (part_of chip u) net (at_place u lt) h)

    pub driven_data : (net : ℕ) → drives_net chip members net ≡ true → (net < net_count chip) × IsOutside chip net
    driven_data net h =
        let d = drives_from net h in
        data_at d.0 net (gate_at d.0 d.1).0 (output_is_data (part_of chip d.0).body net d.2)

    pub read_data : (net : ℕ) → reads_net chip members net ≡ true → (net < net_count chip) × IsOutside chip net
    read_data net h =
        let d = reads_from net h in
        data_at d.0 net (gate_at d.0 d.1).0 (input_is_data (part_of chip d.0).body net d.2)

    pub output_net_listed : (net : ℕ) → drives_net chip members net ≡ true → Contains (cluster_output_nets chip members) net
    unfolding cluster_output_nets
    output_net_listed net h =
        let d = driven_data net h in
        passing_listed (drives_net chip members) (net_count chip) 0 net (omega arith) (let w = d.0 in omega arith) h

    pub output_net_holds : (net : ℕ) → Contains (cluster_output_nets chip members) net → drives_net chip members net ≡ true
    unfolding cluster_output_nets
    output_net_holds net c = (passing_holds (drives_net chip members) (net_count chip) 0 net c).2

    pub kind_same : (net : ℕ) → kind_of m net ≡ kind_of chip net
    kind_same net = ap (λ b. if b then node.Storage OUTPUT_NET else node.Input)
        (same_bool (list_any (λ (part : Part). has (stored_nets part.body) net) m.parts) (list_any (λ (part : Part). has (stored_nets part.body) net) chip.parts)
        (λ h. elim (part_passes (λ (part : Part). has (stored_nets part.body) net) h) [
          | inl o ↦ passes_chip (λ (part : Part). has (stored_nets part.body) net) o.0 (place_within o.0 o.1) o.2
          | inr c ↦
              let d = drives_from net (output_net_holds net (has_contains (cluster_output_nets chip members) net c)) in
              passes_chip (λ (part : Part). has (stored_nets part.body) net) d.0 (gate_at d.0 d.1).0
              (output_is_stored (part_of chip d.0).body net (contains_has (gate_outputs (part_of chip d.0).body) net d.2))
        ])
        (λ h.
        let c = chip_passes (λ (part : Part). has (stored_nets part.body) net) h in
        elim (cases_Bool (is_member members c.0)) [
          | inl e ↦
              let member = listed_contains members c.0 e in
              let g = gate_at c.0 member in
              let out : Contains (gate_outputs (part_of chip c.0).body) net =
              subst (λ xs. Contains xs net) (stored_is_output (part_of chip c.0).body g.1) (has_contains (stored_nets (part_of chip c.0).body) net c.2) in
              cluster_passes (λ (part : Part). has (stored_nets part.body) net)
              (contains_has (cluster_output_nets chip members) net (output_net_listed net (drives_at c.0 net member out)))
          | inr e ↦ other_passes (λ (part : Part). has (stored_nets part.body) net) c.0 (place_listed c.0 c.1 e) c.2
        ]))

    pub number_same : (net : ℕ) → core_net m net ≡ core_net chip net
    unfolding core_net
    number_same zero = refl
    number_same (suc net) =
        ap (λ k. k + (if is_scan_path m net then 0 else 1)) (number_same net)
        ∙ ap (λ b. core_net chip net + (if b then 0 else 1)) (path_same net)

    pub kinds_same : (net : ℕ) → core_kinds m net ≡ core_kinds chip net
    unfolding core_kinds
    kinds_same zero = refl
    kinds_same (suc net) =
        ap (λ ks. ks ++ (if is_scan_path m net then [] else kind_of m net ∷ [])) (kinds_same net)
        ∙ ap (λ b. core_kinds chip net ++ (if b then [] else kind_of m net ∷ [])) (path_same net)
        ∙ ap (λ k. core_kinds chip net ++ (if is_scan_path chip net then [] else k ∷ [])) (kind_same net)

    abbrev pub core : flat.Chip
    core = core_of chip

    pub core_known : count_of core ≡ length chip.parts
    core_known = length-map chip.parts (λ (part : Part). core_instance chip part.body)

    -- the pins of the core's instance
    pub outputs_here : (u : ℕ) → u < length chip.parts → outputs_at core u ≡ length (stored_nets (part_of chip u).body)
    outputs_here u lt =
        ap (λ (i : Instance). role_count is_output i.cell.pins) (core_at chip u (part_of chip u) (at_place u lt))
        ∙ sym (stored_count chip (part_of chip u).body (body_of chip is u (part_of chip u) (at_place u lt)))

    pub inputs_here : (u : ℕ) → u < length chip.parts → inputs_at core u ≡ length (gate_inputs (part_of chip u).body)
    inputs_here u lt =
        ap (λ (i : Instance). role_count is_input i.cell.pins) (core_at chip u (part_of chip u) (at_place u lt))
        ∙ sym (read_count chip (part_of chip u).body (body_of chip is u (part_of chip u) (at_place u lt)))

    pub output_here : (u output : ℕ) → u < length chip.parts → output < length (stored_nets (part_of chip u).body)
        → output_net core u output ≡ core_net chip (get_or (stored_nets (part_of chip u).body) output 0)
    output_here u output lt within =
        ap (λ (i : Instance). get_or i.pins (role_count is_input i.cell.pins + output) 0) (core_at chip u (part_of chip u) (at_place u lt))
        ∙ stored_pin chip (part_of chip u).body output (body_of chip is u (part_of chip u) (at_place u lt)) within

    pub input_here : (u pin : ℕ) → u < length chip.parts → pin < length (gate_inputs (part_of chip u).body)
        → net_of core u pin ≡ core_net chip (get_or (gate_inputs (part_of chip u).body) pin 0)
    input_here u pin lt within =
        let c = read_count chip (part_of chip u).body (body_of chip is u (part_of chip u) (at_place u lt)) in
        ap (λ (i : Instance). get_or i.pins pin 0) (core_at chip u (part_of chip u) (at_place u lt))
        ∙ read_pin chip (part_of chip u).body pin (body_of chip is u (part_of chip u) (at_place u lt)) (omega arith)

    -- members drive a net exactly where they drive its number in the core
    pub driven_same : (net : ℕ) → IsOutside chip net → drives_net chip members net ≡ is_driven core members (core_net chip net)
    driven_same net outside = same_bool (drives_net chip members net) (is_driven core members (core_net chip net))
        (λ h.
        let d = drives_from net h in
        let g = gate_at d.0 d.1 in
        let c : Contains (stored_nets (part_of chip d.0).body) net = subst (λ xs. Contains xs net) (sym (stored_is_output (part_of chip d.0).body g.1)) d.2 in
        let o = outputs_here d.0 g.0 in
        let cl = c.1 in
        let on : output_net core d.0 c.0 ≡ core_net chip net =
        output_here d.0 c.0 g.0 c.1 ∙ ap (core_net chip) (get_or_default (stored_nets (part_of chip d.0).body) c.0 0 net c.1 ∙ c.2) in
        subst (λ x. is_driven core members x ≡ true) on (is_driven_at core members d.0 c.0 d.1 (omega arith)))
        (λ h.
        let d = driven_by core members (core_net chip net) h in
        let g = gate_at d.member d.listed in
        let o = outputs_here d.member g.0 in
        let w = d.within in
        let lt : d.output < length (stored_nets (part_of chip d.member).body) = omega arith in
        let same : core_net chip (get_or (stored_nets (part_of chip d.member).body) d.output 0) ≡ core_net chip net =
        sym (output_here d.member d.output g.0 lt) ∙ d.on in
        let at = data_at d.member (get_or (stored_nets (part_of chip d.member).body) d.output 0) g.0 (stored_is_data (part_of chip d.member).body d.output lt) in
        let e = core_same chip (get_or (stored_nets (part_of chip d.member).body) d.output 0) net at.1 outside same in
        let c : Contains (stored_nets (part_of chip d.member).body) net =
        subst (Contains (stored_nets (part_of chip d.member).body)) e (get_or_contains (stored_nets (part_of chip d.member).body) d.output lt) in
        drives_at d.member net d.listed (subst (λ xs. Contains xs net) (stored_is_output (part_of chip d.member).body g.1) c))

    pub read_same : (net : ℕ) → IsOutside chip net → reads_net chip members net ≡ is_read core members (core_net chip net)
    read_same net outside = same_bool (reads_net chip members net) (is_read core members (core_net chip net))
        (λ h.
        let d = reads_from net h in
        let g = gate_at d.0 d.1 in
        let o = inputs_here d.0 g.0 in
        let c = d.2 in
        let cl = c.1 in
        let on : net_of core d.0 c.0 ≡ core_net chip net =
        input_here d.0 c.0 g.0 c.1 ∙ ap (core_net chip) (get_or_default (gate_inputs (part_of chip d.0).body) c.0 0 net c.1 ∙ c.2) in
        subst (λ x. is_read core members x ≡ true) on (is_read_at core members d.0 c.0 d.1 (omega arith)))
        (λ h.
        let d = read_by core members (core_net chip net) h in
        let g = gate_at d.member d.listed in
        let o = inputs_here d.member g.0 in
        let w = d.within in
        let lt : d.pin < length (gate_inputs (part_of chip d.member).body) = omega arith in
        let same : core_net chip (get_or (gate_inputs (part_of chip d.member).body) d.pin 0) ≡ core_net chip net =
        sym (input_here d.member d.pin g.0 lt) ∙ d.on in
        let at = data_at d.member (get_or (gate_inputs (part_of chip d.member).body) d.pin 0) g.0 (read_is_data (part_of chip d.member).body d.pin lt) in
        let e = core_same chip (get_or (gate_inputs (part_of chip d.member).body) d.pin 0) net at.1 outside same in
        reads_at d.member net d.listed
        (subst (Contains (gate_inputs (part_of chip d.member).body)) e (get_or_contains (gate_inputs (part_of chip d.member).body) d.pin lt)))

    -- the numbers of nets that pass a test are the numbers that pass it in the core
    pub numbers_same : (p q : ℕ → Bool) → ((net : ℕ) → IsOutside chip net → p net ≡ q (core_net chip net))
        → ((net : ℕ) → p net ≡ true → (net < net_count chip) × IsOutside chip net)
        → map (core_net chip) (filter p (range_with_len 0 (net_count chip))) ≡ filter q (range_with_len 0 (length core.nets))
    numbers_same p q same data' = rising_same (map (core_net chip) (filter p (range_with_len 0 (net_count chip)))) (filter q (range_with_len 0 (length core.nets)))
        (rising_map (core_net chip) (filter p (range_with_len 0 (net_count chip))) (passing_rising p (net_count chip) 0)
        (λ a b ca cb lt. core_less chip a b (data' a (passing_holds p (net_count chip) 0 a ca).2).1 lt))
        (passing_rising q (length core.nets) 0)
        (λ x c.
        let k = map-Contains (core_net chip) (filter p (range_with_len 0 (net_count chip))) x c in
        let h = passing_holds p (net_count chip) 0 k.0 k.1 in
        let d = data' k.0 h.2 in
        let w = number_within chip is k.0 d.0 d.1 in
        subst (Contains (filter q (range_with_len 0 (length core.nets)))) k.2
        (passing_listed q (length core.nets) 0 (core_net chip k.0) (omega arith) (omega arith) (sym (same k.0 d.1) ∙ h.2)))
        (λ x c.
        let h = passing_holds q (length core.nets) 0 x c in
        let l = length-core_kinds chip (net_count chip) in
        let n = net_of_number chip (net_count chip) x (omega (arith, h.1)) in
        let passes : p n.net ≡ true = same n.net n.outside ∙ ap q n.numbered ∙ h.2 in
        let w = n.within in
        subst (Contains (map (core_net chip) (filter p (range_with_len 0 (net_count chip))))) n.numbered
        (Contains-map (core_net chip) (filter p (range_with_len 0 (net_count chip))) n.net
        (passing_listed p (net_count chip) 0 n.net (omega arith) (omega arith) passes)))

    pub outputs_numbered : map (core_net chip) (cluster_output_nets chip members) ≡ cluster_outputs core members
    unfolding cluster_output_nets cluster_outputs
    outputs_numbered = numbers_same (drives_net chip members) (is_driven core members) driven_same driven_data

    pub inputs_numbered : map (core_net chip) (cluster_input_nets chip members) ≡ cluster_inputs core members
    unfolding cluster_input_nets cluster_inputs
    inputs_numbered = numbers_same (feeds_members chip members) (is_fed core members)
        (λ net outside.
        ap (λ b. b && not (drives_net chip members net)) (read_same net outside)
        ∙ ap (λ b. is_read core members (core_net chip net) && not b) (driven_same net outside))
        (λ net h. read_data net (and_parts (reads_net chip members net) (not (drives_net chip members net)) h).0)

    -- the cells of instances are those of the library
    pub cell_within : (cell : ℕ) (inputs outputs : List ℕ) → IsGateOf (cell_of chip.cells cell) inputs outputs → cell < length chip.cells
    cell_within cell inputs outputs g = elim (cases_lt cell (length chip.cells)) [
      | inl lt ↦ lt
      | inr past ↦ absurd (g.keeps NoRail (subst (λ raw. Breaks raw NoRail) (sym (get_or_past chip.cells cell no_cell past)) (inl refl)))
    ]

    pub instance_same : (body : Body) → IsBody chip.cells body → core_instance m body ≡ core_instance chip body
    instance_same (Gate cell inputs outputs) g =
        let c : cell_of m.cells cell ≡ cell_of chip.cells cell =
        ap (λ cs. cell_of cs cell) cells_are
        ∙ get_or_append_left chip.cells (cluster_cell (core_of chip) members ∷ []) no_cell cell (cell_within cell inputs outputs g) in
        let p = map_same (core_net m) (core_net chip) number_same (inputs ++ outputs) in
        cc
    instance_same (Scan nets) g =
        let p = map_same (core_net m) (core_net chip) number_same (option_to_list nets.qn) in
        cc

    pub places_are : places ≡ others core members
    unfolding others
    places_are = ap (λ k. filter (λ u. not (is_member members u)) (range_with_len 0 k)) (sym core_known)

    abbrev pub instance_of : Part → Instance
    instance_of part = core_instance m part.body

    pub others_same : map instance_of (other_parts chip members) ≡ map (instance_at core) (others core members)
    others_same =
        map_map instance_of (part_of chip) places
        ∙ map_within (λ u. instance_of (part_of chip u)) (instance_at core) places
        (λ u c.
        let lt = place_within u c in
        instance_same (part_of chip u).body (body_of chip is u (part_of chip u) (at_place u lt))
        ∙ sym (core_at chip u (part_of chip u) (at_place u lt)))
        ∙ ap (map (instance_at core)) places_are

    pub cluster_same : instance_of (cluster_part chip members) ≡ cluster_of core members
    cluster_same =
        let c : cell_of m.cells (length chip.cells) ≡ cluster_cell core members =
        ap (λ cs. cell_of cs (length chip.cells)) cells_are ∙ get_or_push chip.cells (cluster_cell core members) no_cell (length chip.cells) refl in
        let p : map (core_net m) (cluster_input_nets chip members ++ cluster_output_nets chip members) ≡ cluster_inputs core members ++ cluster_outputs core members =
        map_same (core_net m) (core_net chip) number_same (cluster_input_nets chip members ++ cluster_output_nets chip members)
        ∙ map-append (core_net chip) (cluster_input_nets chip members) (cluster_output_nets chip members)
        ∙ ap (λ xs. xs ++ map (core_net chip) (cluster_output_nets chip members)) inputs_numbered
        ∙ ap (λ xs. cluster_inputs core members ++ xs) outputs_numbered in
        cc

    pub instances_same : (core_of m).instances ≡ map (instance_at core) (others core members) ++ (cluster_of core members ∷ [])
    instances_same =
        ap (map instance_of) parts_are
        ∙ map-append instance_of (other_parts chip members) (cluster_part chip members ∷ [])
        ∙ ap (λ xs. xs ++ (instance_of (cluster_part chip members) ∷ [])) others_same
        ∙ ap (λ x. map (instance_at core) (others core members) ++ (x ∷ [])) cluster_same

    -- the ends of the chip
    pub ports_same : (input : Bool) → port_nets m input ≡ port_nets chip input
    ports_same input =
        ap (flat_map (λ (port : PortBit). if (if port.is_input then input else not input) && not (is_scan_path m port.net) then port.net ∷ [] else [])) ports_are
        ∙ flat_same (λ (port : PortBit). if (if port.is_input then input else not input) && not (is_scan_path m port.net) then port.net ∷ [] else [])
        (λ (port : PortBit). if (if port.is_input then input else not input) && not (is_scan_path chip port.net) then port.net ∷ [] else [])
        (λ port. ap (λ b. if (if port.is_input then input else not input) && not b then port.net ∷ [] else []) (path_same port.net)) chip.ports

    pub pieces_same : (f : Body → List ℕ) → ((body : Body) → IsGate body → f body ≡ [])
        → flat_map (λ (part : Part). f part.body) m.parts ≡ flat_map (λ (part : Part). f part.body) chip.parts
    pieces_same f none =
        ap (flat_map (λ (part : Part). f part.body)) parts_are
        ∙ flat_map-append (λ (part : Part). f part.body) (other_parts chip members) (cluster_part chip members ∷ [])
        ∙ ap (λ xs. flat_map (λ (part : Part). f part.body) (other_parts chip members) ++ (xs ++ [])) (none (cluster_part chip members).body tt)
        ∙ append-nil (flat_map (λ (part : Part). f part.body) (other_parts chip members))
        ∙ flat_of_map (λ (part : Part). f part.body) (part_of chip) places
        ∙ flat_filter (λ u. f (part_of chip u).body) (λ u. not (is_member members u))
        (λ u out. none (part_of chip u).body (gate_at u (listed_contains members u (not-false (is_member members u) out))).1) (range_with_len 0 (length chip.parts))
        ∙ sym (flat_of_map (λ (part : Part). f part.body) (part_of chip) (range_with_len 0 (length chip.parts)))
        ∙ ap (flat_map (λ (part : Part). f part.body)) (sym (list_is_map chip.parts no_part))

    pub inputs_same : map (core_net m) (inputs_of m) ≡ map (core_net chip) (inputs_of chip)
    inputs_same =
        map_same (core_net m) (core_net chip) number_same (inputs_of m)
        ∙ ap (λ xs. map (core_net chip) (xs ++ flat_map (λ (part : Part). q_nets part.body) m.parts)) (ports_same true)
        ∙ ap (λ xs. map (core_net chip) (port_nets chip true ++ xs)) (pieces_same q_nets no_q)

    pub outputs_same : map (core_net m) (outputs_of m) ≡ map (core_net chip) (outputs_of chip)
    outputs_same =
        map_same (core_net m) (core_net chip) number_same (outputs_of m)
        ∙ ap (λ xs. map (core_net chip) (xs ++ flat_map (λ (part : Part). d_nets part.body) m.parts)) (ports_same false)
        ∙ ap (λ xs. map (core_net chip) (port_nets chip false ++ xs)) (pieces_same d_nets no_d)

    pub constant_same : (value : Bool) (o : Option ℕ) → constant_on m value o ≡ constant_on chip value o
    constant_same value None = refl
    constant_same value (Some net) =
        ap (λ b. if b then [] else (let c : Constant = record { net = core_net m net; value = trit_of value } in c) ∷ []) (path_same net)
        ∙ ap (λ k. if is_scan_path chip net then [] else (let c : Constant = record { net = k; value = trit_of value } in c) ∷ []) (number_same net)

    pub constants_same : core_constants m ≡ core_constants chip
    constants_same =
        ap (λ o. in_net_order (constant_on m false o) (constant_on m true m.one)) zero_is
        ∙ ap (λ o. in_net_order (constant_on m false chip.zero) (constant_on m true o)) one_is
        ∙ ap (λ xs. in_net_order xs (constant_on m true chip.one)) (constant_same false chip.zero)
        ∙ ap (λ xs. in_net_order (constant_on chip false chip.zero) xs) (constant_same true chip.one)

    pub all_nets : core_kinds m (net_count m) ≡ core_kinds chip (net_count chip)
    all_nets = ap (core_kinds m) nets_are ∙ kinds_same (net_count chip)

    pub all_same : core_of m ≡ merged core members
    unfolding merged
    all_same =
        same_chip _ _ _ _ _ _ _ _ _ _ all_nets instances_same inputs_same constants_same outputs_same

pub draft_core_is_merged_lem : DraftCoreIsMerged
draft_core_is_merged_lem chip members is gates are = all_same chip members is gates
