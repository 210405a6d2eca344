-- The wiring of the draft of a merged chip.
use Rattle.std.proofs.Common.{◌≤◌, ◌≡◌, ℕ, ◌+◌, ◌<◌, ◌^◌, ◌⊎◌, List, [], ◌∷◌, ◌++◌, length, Bool}
use Rattle.std.proofs.Common.{true, false, inl, inr, refl, sym, ◌∙◌, ap, subst, arith, get_or, eqb, Option, Some, None}
use Rattle.std.specs.Prelude.{not, slice_get, IsSomeAnd, IsTrue, option_to_list}
use Rattle.std.specs.List.{Contains, All, filter, range_with_len, position_or_len}
use Rattle.std.proofs.lemmas.Bool.{cases_lt, cases_Bool, both_ways, and_parts, not-true}
use Rattle.std.proofs.lemmas.List.{length-map, length-append, get_or-map, get_or_append_left, get_or_push}
use Rattle.std.proofs.lemmas.List.{get_or_default}
use Rattle.std.proofs.lemmas.List.Elements.{All-append, Contains-get_or, Contains-append_cases}
use Rattle.std.proofs.lemmas.List.Filters.{length-filter_both}
use Rattle.std.proofs.lemmas.List.FromFn.{length-range_with_len}
use Rattle.std.proofs.lemmas.Option.{slice_get-get_or, slice_get_within, get_or_from_slice_get, slice_get_past}
use Rattle.ca_cell.specs.declared.raw.RawCell.{RawCell}
use Rattle.ca_cell.specs.declared.rule.CellRule.TheVariants.{NoOutput, TooManyOutputs}
use Rattle.ca_cell.specs.declared.rule.TheConstants.{MOST_OUTPUTS}
use Rattle.ca_cell.specs.Raw.{is_input, is_output, role_count}
use Rattle.ca_cell.specs.Rules.{KeepsRules, KeepsAllBut}
use Rattle.ca_linked.specs.declared.parts.Body.{Body}
use Rattle.ca_linked.specs.declared.parts.Part.{Part}
use Rattle.ca_linked.specs.declared.parts.PortBit.{PortBit}
use Rattle.ca_linked.specs.declared.parts.Body.TheVariants.{Gate, Scan}
use Rattle.ca_linked.specs.declared.parts.Source.{Source}
use Rattle.ca_linked.specs.declared.parts.Source.TheVariants.{FromPort, FromConstant, FromPin}
use Rattle.ca_linked.specs.Linked.{LinkedChip, net_count, constant_net, data_nets, is_scan_path, gate_inputs, gate_outputs}
use Rattle.ca_linked.specs.Linked.{input_nets, output_nets, Drives, Feeds, IsGate, IsLibrary, IsBody, IsGateOf}
use Rattle.ca_linked.specs.Linked.{IsWired, cell_of, no_cell, has, inverted_nets, is_read}
use Rattle.ca_linked.specs.Wired.{IsReady}
use Rattle.ca_linked.specs.Order.{IsChain, HasNoLoop, IsOrder}
use Rattle.ca_linked.proofs.OrderLemmas.{place_of, contained_at}
use Rattle.ca_linked.proofs.PartLemmas.{of_all, has_contains, contains_has}
use Rattle.ca_flat.specs.Chip.{Instance, IsChip, inputs_at, outputs_at, net_of, output_net}
use Rattle.ca_view.specs.Core.{core_net, stored_nets, core_instance, core_of, rank_of}
use Rattle.ca_view.proofs.CoreLemmas.{IsOutside}
use Rattle.ca_view.proofs.CorePartLemmas.{core_at, stored_count, stored_pin, read_count, read_pin}
use Rattle.ca_view.proofs.CoreIsChip.{core_is}
use Rattle.ca_merged.specs.Cluster.{is_member, cluster_cell}
use Rattle.ca_merged.specs.Merged.{merged}
use Rattle.ca_merged.proofs.Ends.{merged_is_chip_lem}
use Rattle.ca_merged.proofs.Lists.{at_place, get_or_contains, passing_listed, passing_distinct, passing_holds}
use Rattle.ca_merged.proofs.Lists.{listed_contains, contains_listed, IsDistinct}
use Rattle.ca_merged.proofs.Seats.{map-Contains, inputs_are, outputs_are, cluster_is_cell}
use Rattle.ca_merge.specs.Draft.{no_part, part_of, drives_net, reads_net, feeds_members, cluster_input_nets}
use Rattle.ca_merge.specs.Draft.{cluster_output_nets, cluster_part, other_parts, merged_draft, AreGates}
use Rattle.ca_merge.specs.Laws.{AreMergeable, DraftHasNoLoop, DraftIsWired, DraftIsReady}
use Rattle.ca_merge.proofs.DraftLemmas.{places, parts_are, ports_are, nets_are, zero_is, one_is, cells_are}
use Rattle.ca_merge.proofs.DraftLemmas.{part_passes, passes_chip, reads_from}
use Rattle.ca_merge.proofs.DraftLemmas.{place_within, place_listed, gate_at, path_same, drives_from, drives_at}
use Rattle.ca_merge.proofs.DraftLemmas.{driven_data, read_data, output_net_listed, output_net_holds}
use Rattle.ca_merge.proofs.DraftLemmas.{outputs_numbered, inputs_numbered, cell_within, all_same}

all_from : {X : Type 0} (P : X → Type 0) (xs : List X) → ((x : X) → Contains xs x → P x) → All P xs
all_from P xs h k d lt = h (get_or xs k d) (Contains-get_or xs k d lt)

-- the pins of the core's instances, where each instance has a net for each pin
module _ (c : LinkedChip) (bodies : All (λ (part : Part). IsBody c.cells part.body) c.parts) where
  body_at : (u : ℕ) (part : Part) → slice_get c.parts u ≡ Some part → IsBody c.cells part.body
  body_at u part at = of_all (λ (p : Part). IsBody c.cells p.body) c.parts u part bodies at

  output_is_stored : (body : Body) (net : ℕ) → Contains (gate_outputs body) net → Contains (stored_nets body) net
  output_is_stored (Gate cell inputs outputs) net h = h
  output_is_stored (Scan nets) net h = absurd (omega (arith, h.1))

  -- what feeds an instance drives one of its pins in the core
  feeder_rises : (rank : ℕ → ℕ) → IsChip (core_of c) rank → (w u : ℕ) → Feeds c w u → rank w < rank u
  feeder_rises rank is w u f =
      let db = body_at w f.driver f.is_driver in
      let rb = body_at u f.reader f.is_reader in
      let len = length-map c.parts (λ (part : Part). core_instance c part.body) in
      let wl = slice_get_within c.parts w f.driver f.is_driver in
      let ul = slice_get_within c.parts u f.reader f.is_reader in
      let s = output_is_stored f.driver.body f.net f.driven in
      let sl = s.1 in
      let outs : outputs_at (core_of c) w ≡ length (stored_nets f.driver.body) =
      ap (λ (i : Instance). role_count is_output i.cell.pins) (core_at c w f.driver f.is_driver) ∙ sym (stored_count c f.driver.body db) in
      let ins : inputs_at (core_of c) u ≡ length (gate_inputs f.reader.body) =
      ap (λ (i : Instance). role_count is_input i.cell.pins) (core_at c u f.reader f.is_reader) ∙ sym (read_count c f.reader.body rb) in
      let r = f.read in
      let rl = r.1 in
      let rc = read_count c f.reader.body rb in
      let reads : net_of (core_of c) u r.0 ≡ core_net c f.net =
      ap (λ (i : Instance). get_or i.pins r.0 0) (core_at c u f.reader f.is_reader)
      ∙ read_pin c f.reader.body r.0 rb (omega arith)
      ∙ ap (core_net c) (get_or_default (gate_inputs f.reader.body) r.0 0 f.net r.1 ∙ r.2) in
      let drives : output_net (core_of c) w s.0 ≡ core_net c f.net =
      ap (λ (i : Instance). get_or i.pins (role_count is_input i.cell.pins + s.0) 0) (core_at c w f.driver f.is_driver)
      ∙ stored_pin c f.driver.body s.0 db s.1
      ∙ ap (core_net c) (get_or_default (stored_nets f.driver.body) s.0 0 f.net s.1 ∙ s.2) in
      is.ranked u r.0 (omega arith) (omega arith) (record { instance = w; output = s.0; known = omega arith; within = omega arith; on = drives ∙ sym reads })

  chain_rises : (rank : ℕ → ℕ) → IsChip (core_of c) rank → (u : ℕ) (more : List ℕ) (to : ℕ) → IsChain (Feeds c) u more to → rank u < rank to
  chain_rises rank is u [] to h = feeder_rises rank is u to h
  chain_rises rank is u (w ∷ more) to h =
      let a = feeder_rises rank is u w h.0 in let b = chain_rises rank is w more to h.1 in omega arith

  no_loop : (rank : ℕ → ℕ) → IsChip (core_of c) rank → HasNoLoop (Feeds c)
  no_loop rank is u more h = let a = chain_rises rank is u more u h in omega arith

module _ (chip : LinkedChip) (members : List ℕ) (can : AreMergeable chip members) where
  abbrev is : IsWired chip
  is = can.wired

  abbrev gates : AreGates chip members
  gates = can.gates

  abbrev d : LinkedChip
  d = merged_draft chip members

  abbrev pl : List ℕ
  pl = places chip members

  abbrev ins : List ℕ
  ins = cluster_input_nets chip members

  abbrev outs : List ℕ
  outs = cluster_output_nets chip members

  keeps_all : KeepsAllBut NoOutput (cluster_cell (core_of chip) members)
  keeps_all = λ rule other broken. can.keeps rule broken

  -- a fact of each instance
  all_parts : (P : Part → Type 0) → ((u : ℕ) → u < length chip.parts → P (part_of chip u)) → P (cluster_part chip members) → All P d.parts
  all_parts P each last =
      subst (All P) (sym (parts_are chip members))
      (All-append P (other_parts chip members) (cluster_part chip members ∷ [])
      (all_from P (other_parts chip members) (λ x c.
      let k = map-Contains (part_of chip) pl x c in subst P k.2 (each k.0 (place_within chip members k.0 k.1))))
      (λ k e lt. subst (λ j. P (get_or (cluster_part chip members ∷ []) j e)) (let z : 0 ≡ k = omega arith in z) last))

  cell_is : cell_of d.cells (length chip.cells) ≡ cluster_cell (core_of chip) members
  cell_is = ap (λ cs. cell_of cs (length chip.cells)) (cells_are chip members)
      ∙ get_or_push chip.cells (cluster_cell (core_of chip) members) no_cell (length chip.cells) refl

  body_kept : (body : Body) → IsBody chip.cells body → IsBody d.cells body
  body_kept (Gate cell inputs outputs) g =
      subst (λ raw. IsGateOf raw inputs outputs)
      (sym (ap (λ cs. cell_of cs cell) (cells_are chip members)
      ∙ get_or_append_left chip.cells (cluster_cell (core_of chip) members ∷ []) no_cell cell (cell_within chip members is gates cell inputs outputs g))) g
  body_kept (Scan nets) g = tt

  cluster_body : IsBody d.cells (cluster_part chip members).body
  cluster_body = subst (λ raw. IsGateOf raw ins outs) (sym cell_is) (record {
    is_raw = (cluster_is_cell (core_of chip) members (rank_of chip) (core_is chip is) can.are.known keeps_all).is_raw;
    keeps = can.keeps;
    net_per_input =
        sym (length-map ins (core_net chip)) ∙ ap (λ xs. length xs) (inputs_numbered chip members is gates) ∙ sym (inputs_are (core_of chip) members);
    net_per_output =
        sym (length-map outs (core_net chip)) ∙ ap (λ xs. length xs) (outputs_numbered chip members is gates) ∙ sym (outputs_are (core_of chip) members);
  })

  bodies : All (λ (part : Part). IsBody d.cells part.body) d.parts
  bodies = all_parts (λ (part : Part). IsBody d.cells part.body) (λ u lt. body_kept (part_of chip u).body (is.bodies u no_part lt)) cluster_body

  new : (r : ℕ → ℕ) × IsChip (merged (core_of chip) members) r
  new = merged_is_chip_lem (core_of chip) (rank_of chip) members (core_is chip is) can.are keeps_all

  pub draft_no_loop : HasNoLoop (Feeds d)
  draft_no_loop = no_loop d bodies new.0 (subst (λ c. IsChip c new.0) (sym (all_same chip members is gates)) new.1)

  -- the nets of the cluster's pins
  fed_listed : (net : ℕ) → Contains ins net → reads_net chip members net ≡ true
  unfolding cluster_input_nets
  fed_listed net c =
      (and_parts (reads_net chip members net) (not (drives_net chip members net))
      (passing_holds (feeds_members chip members) (net_count chip) 0 net c).2).0

  pin_net : (net : ℕ) → Contains (ins ++ outs) net → (net < net_count chip) × IsOutside chip net
  pin_net net c = elim (Contains-append_cases ins outs net c) [
    | inl i ↦ read_data chip members is gates net (fed_listed net i)
    | inr o ↦ driven_data chip members is gates net (output_net_holds chip members is gates net o)
  ]

  all_within : (xs : List ℕ) → All (λ net. net < net_count chip) xs → All (λ net. net < net_count d) xs
  all_within xs h = subst (λ k. All (λ net. net < k) xs) (sym (nets_are chip members)) h

  on_nets : All (λ (part : Part). All (λ net. net < net_count d) (data_nets part.body)) d.parts
  on_nets = all_parts (λ (part : Part). All (λ net. net < net_count d) (data_nets part.body))
      (λ u lt. all_within (data_nets (part_of chip u).body) (is.on_nets u no_part lt))
      (all_within (ins ++ outs) (all_from (λ net. net < net_count chip) (ins ++ outs) (λ net c. (pin_net net c).0)))

  inputs_on_nets : All (λ (part : Part). All (λ net. net < net_count d) (input_nets part.body)) d.parts
  inputs_on_nets = all_parts (λ (part : Part). All (λ net. net < net_count d) (input_nets part.body))
      (λ u lt. all_within (input_nets (part_of chip u).body) (is.inputs_on_nets u no_part lt))
      (all_within ins (all_from (λ net. net < net_count chip) ins (λ net c. (read_data chip members is gates net (fed_listed net c)).0)))

  outputs_on_nets : All (λ (part : Part). All (λ net. net < net_count d) (output_nets part.body)) d.parts
  outputs_on_nets = all_parts (λ (part : Part). All (λ net. net < net_count d) (output_nets part.body))
      (λ u lt. all_within (output_nets (part_of chip u).body) (is.outputs_on_nets u no_part lt))
      (all_within outs (all_from (λ net. net < net_count chip) outs
      (λ net c. (driven_data chip members is gates net (output_net_holds chip members is gates net c)).0)))

  off_path : All (λ (part : Part). All (λ net. is_scan_path d net ≡ false) (data_nets part.body)) d.parts
  off_path = all_parts (λ (part : Part). All (λ net. is_scan_path d net ≡ false) (data_nets part.body))
      (λ u lt k e less. path_same chip members is gates (get_or (data_nets (part_of chip u).body) k e) ∙ is.off_path u no_part lt k e less)
      (all_from (λ net. is_scan_path d net ≡ false) (ins ++ outs) (λ net c. path_same chip members is gates net ∙ (pin_net net c).1))

  -- what an input pin of the draft is on, one of the chip is on
  gate_input : (body : Body) (net : ℕ) → Contains (gate_inputs body) net → has (input_nets body) net ≡ true
  gate_input (Gate cell inputs outputs) net c = contains_has inputs net c
  gate_input (Scan nets) net c = absurd (omega (arith, c.1))

  reads_less : (net : ℕ) → is_read d net ≡ true → is_read chip net ≡ true
  reads_less net h = elim (part_passes chip members (λ (part : Part). has (input_nets part.body) net) h) [
    | inl o ↦ passes_chip chip members (λ (part : Part). has (input_nets part.body) net) o.0 (place_within chip members o.0 o.1) o.2
    | inr c ↦
        let r = reads_from chip members is gates net (fed_listed net (has_contains ins net c)) in
        passes_chip chip members (λ (part : Part). has (input_nets part.body) net) r.0 (gate_at chip members is gates r.0 r.1).0
        (gate_input (part_of chip r.0).body net r.2)
  ]

  unread_net : (net : ℕ) → is_read chip net ≡ false → is_read d net ≡ false
  unread_net net off = elim (cases_Bool (is_read d net)) [
    | inl on ↦ absurd (both_ways (is_read chip net) off (reads_less net on))
    | inr unread ↦ unread
  ]

  unread : All (λ (part : Part). All (λ net. is_read d net ≡ false) (inverted_nets part.body)) d.parts
  unread = all_parts (λ (part : Part). All (λ net. is_read d net ≡ false) (inverted_nets part.body))
      (λ u lt k e less. unread_net (get_or (inverted_nets (part_of chip u).body) k e) (is.unread u no_part lt k e less))
      (λ k e less. absurd (omega arith))

  ports_on_nets : All (λ (port : PortBit). port.net < net_count d) d.ports
  ports_on_nets = subst (λ xs. All (λ (port : PortBit). port.net < net_count d) xs) (sym (ports_are chip members))
      (subst (λ k. All (λ (port : PortBit). port.net < k) chip.ports) (sym (nets_are chip members)) is.ports_on_nets)

  constant_kept : (value : Bool) → constant_net d value ≡ constant_net chip value
  constant_kept true = one_is chip members
  constant_kept false = zero_is chip members

  -- the places of instances
  at_other : (i : ℕ) → i < length pl → slice_get d.parts i ≡ Some (part_of chip (get_or pl i 0))
  at_other i lt =
      let l = length-map pl (part_of chip) in
      ap (λ ps. slice_get ps i) (parts_are chip members)
      ∙ slice_get-get_or (other_parts chip members ++ (cluster_part chip members ∷ [])) i no_part
      (let k = length-append (other_parts chip members) (cluster_part chip members ∷ []) in omega arith)
      ∙ ap Some (get_or_append_left (other_parts chip members) (cluster_part chip members ∷ []) no_part i (omega arith) ∙ get_or-map (part_of chip) pl i 0 no_part lt)

  at_last : slice_get d.parts (length pl) ≡ Some (cluster_part chip members)
  at_last =
      let l = length-map pl (part_of chip) in
      ap (λ ps. slice_get ps (length pl)) (parts_are chip members)
      ∙ slice_get-get_or (other_parts chip members ++ (cluster_part chip members ∷ [])) (length pl) no_part
      (let k = length-append (other_parts chip members) (cluster_part chip members ∷ []) in omega arith)
      ∙ ap Some (get_or_push (other_parts chip members) (cluster_part chip members) no_part (length pl) l)

  part_count : length d.parts ≡ length pl + 1
  part_count =
      let l = length-map pl (part_of chip) in
      let k = length-append (other_parts chip members) (cluster_part chip members ∷ []) in
      ap (λ ps. length ps) (parts_are chip members) ∙ (omega arith)

  few_parts : length d.parts < 2 ^ 32
  few_parts =
      let first = get_or members 0 0 in
      let c : Contains members (get_or members 0 0) = get_or_contains members 0 can.some in
      let g = gate_at chip members is gates (get_or members 0 0) c in
      let gl = g.0 in
      let listed = passing_listed (is_member members) (length chip.parts) 0 (get_or members 0 0) (omega arith) (omega arith) (contains_listed members (get_or members 0 0) c) in
      let some : listed.0 < length (filter (is_member members) (range_with_len 0 (length chip.parts))) = listed.1 in
      let both = length-filter_both (is_member members) (λ u. not (is_member members u)) (λ u. refl) (range_with_len 0 (length chip.parts)) in
      let r = length-range_with_len 0 (length chip.parts) in
      let p = part_count in
      let f = is.few_parts in
      omega arith

  -- a pin of a library instance
  gate_output : (body : Body) (net : ℕ) → IsGate body → Contains (gate_outputs body) net → (pin : ℕ) × (slice_get (output_nets body) pin ≡ Some net)
  gate_output (Gate cell inputs outputs) net g c = (c.0, place_of outputs net c)
  gate_output (Scan nets) net g c = absurd g

  output_gate : (body : Body) (net pin : ℕ) → IsGate body → slice_get (output_nets body) pin ≡ Some net → Contains (gate_outputs body) net
  output_gate (Gate cell inputs outputs) net pin g e = contained_at outputs pin net e
  output_gate (Scan nets) net pin g e = absurd g

  some_at : (P : Part → Type 0) (o : Option Part) (part : Part) → o ≡ Some part → P part → IsSomeAnd o P
  some_at P o part e h = subst (λ x. IsSomeAnd x P) (sym e) h

  at_some : (P : Part → Type 0) (o : Option Part) (part : Part) → o ≡ Some part → IsSomeAnd o P → P part
  at_some P o part e h = subst (λ x. IsSomeAnd x P) e h

  -- what drives a net in the chip
  from_chip : (net : ℕ) (s : Source) → Drives chip net s → (t : Source) × Drives d net t
  from_chip net (FromPort p) h =
      (FromPort p, subst (λ xs. IsSomeAnd (slice_get xs p) (λ (port : PortBit). IsTrue port.is_input × (port.net ≡ net))) (sym (ports_are chip members)) h)
  from_chip net (FromConstant value) h = (FromConstant value, constant_kept value ∙ h)
  from_chip net (FromPin u pin) h = elim (cases_lt u (length chip.parts)) [
    | inr past ↦ absurd (subst (λ o. IsSomeAnd o (λ (part : Part). slice_get (output_nets part.body) pin ≡ Some net)) (slice_get_past chip.parts u past) h)
    | inl lt ↦
        let here = at_some (λ (part : Part). slice_get (output_nets part.body) pin ≡ Some net) (slice_get chip.parts u) (part_of chip u) (slice_get-get_or chip.parts u no_part lt) h in
        elim (cases_Bool (is_member members u)) [
          | inl e ↦
              let c = listed_contains members u e in
              let g = gate_at chip members is gates u c in
              let listed = output_net_listed chip members is gates net (drives_at chip members is gates u net c (output_gate (part_of chip u).body net pin g.1 here)) in (
                FromPin (length pl) listed.0,
                some_at (λ (part : Part). slice_get (output_nets part.body) listed.0 ≡ Some net) (slice_get d.parts (length pl)) (cluster_part chip members) at_last (place_of outs net listed),
              )
          | inr e ↦
              let p = at_place pl u (place_listed chip members u lt e) in
              let i = position_or_len (eqb u) pl in
              let at : slice_get d.parts i ≡ Some (part_of chip u) = at_other i p.within ∙ ap (λ x. Some (part_of chip x)) p.is in (
                FromPin i pin,
                some_at (λ (part : Part). slice_get (output_nets part.body) pin ≡ Some net) (slice_get d.parts i) (part_of chip u) at here,
              )
        ]
  ]

  -- the source of the chip for one of the draft
  IsOf : ℕ → Source → Source → Type 0
  IsOf net (FromPort p) t = t ≡ FromPort p
  IsOf net (FromConstant value) t = t ≡ FromConstant value
  IsOf net (FromPin i pin) t =
      ((i < length pl) × (t ≡ FromPin (get_or pl i 0) pin))
      ⊎ ((i ≡ length pl) × (slice_get outs pin ≡ Some net) × ((u : ℕ) × Contains members u × ((o : ℕ) × (t ≡ FromPin u o))))

  to_chip : (net : ℕ) (s : Source) → Drives d net s → (t : Source) × Drives chip net t × IsOf net s t
  unfolding IsOf
  to_chip net (FromPort p) h =
      (FromPort p, subst (λ xs. IsSomeAnd (slice_get xs p) (λ (port : PortBit). IsTrue port.is_input × (port.net ≡ net))) (ports_are chip members) h, refl)
  to_chip net (FromConstant value) h = (FromConstant value, sym (constant_kept value) ∙ h, refl)
  to_chip net (FromPin i pin) h = elim (cases_lt i (length pl)) [
    | inl lt ↦
        let u = get_or pl i 0 in
        let known = place_within chip members (get_or pl i 0) (get_or_contains pl i lt) in
        let here = at_some (λ (part : Part). slice_get (output_nets part.body) pin ≡ Some net) (slice_get d.parts i) (part_of chip (get_or pl i 0)) (at_other i lt) h in (
          FromPin (get_or pl i 0) pin,
          some_at (λ (part : Part). slice_get (output_nets part.body) pin ≡ Some net) (slice_get chip.parts (get_or pl i 0)) (part_of chip (get_or pl i 0)) (slice_get-get_or chip.parts (get_or pl i 0) no_part known) here,
          inl (lt, refl),
        )
    | inr ge ↦ elim (cases_lt i (length d.parts)) [
      | inr past ↦ absurd (subst (λ o. IsSomeAnd o (λ (part : Part). slice_get (output_nets part.body) pin ≡ Some net)) (slice_get_past d.parts i past) h)
      | inl less ↦
          let last : i ≡ length pl = let p = part_count in omega arith in
          let here : slice_get outs pin ≡ Some net =
          at_some (λ (part : Part). slice_get (output_nets part.body) pin ≡ Some net) (slice_get d.parts i) (cluster_part chip members) (ap (slice_get d.parts) last ∙ at_last) h in
          let dr = drives_from chip members is gates net (output_net_holds chip members is gates net (contained_at outs pin net here)) in
          let g = gate_at chip members is gates dr.0 dr.1 in
          let o = gate_output (part_of chip dr.0).body net g.1 dr.2 in (
            FromPin dr.0 o.0,
            some_at (λ (part : Part). slice_get (output_nets part.body) o.0 ≡ Some net) (slice_get chip.parts dr.0) (part_of chip dr.0) (slice_get-get_or chip.parts dr.0 no_part g.0) o.1,
            inr (last, here, (dr.0, dr.1, (o.0, refl))),
          )
    ]
  ]

  places_distinct : IsDistinct pl
  places_distinct = passing_distinct (λ u. not (is_member members u)) (length chip.parts) 0

  not_both : (u : ℕ) → Contains pl u → Contains members u → ⊥
  not_both u p c =
      let h = (passing_holds (λ u. not (is_member members u)) (length chip.parts) 0 u p).2 in
      both_ways (is_member members u) (not-true (is_member members u) h) (contains_listed members u c)

  outs_distinct : IsDistinct outs
  unfolding cluster_output_nets
  outs_distinct = passing_distinct (drives_net chip members) (net_count chip) 0

  same_pin : (j k net : ℕ) → slice_get outs j ≡ Some net → slice_get outs k ≡ Some net → j ≡ k
  same_pin j k net a b = outs_distinct j k (slice_get_within outs j net a) (slice_get_within outs k net b)
      (get_or_from_slice_get outs j net 0 a ∙ sym (get_or_from_slice_get outs k net 0 b))

  -- sources of the draft that stand for one source of the chip
  same_source : (net : ℕ) (s t x : Source) → IsOf net s x → IsOf net t x → s ≡ t
  unfolding IsOf
  same_source net (FromPort p) (FromPort q) x a b = cc
  same_source net (FromPort p) (FromConstant v) x a b = cc
  same_source net (FromPort p) (FromPin i pin) x a (inl b) = let e = b.1 in cc
  same_source net (FromPort p) (FromPin i pin) x a (inr b) = let e = b.2.2.1 in cc
  same_source net (FromConstant v) (FromPort q) x a b = cc
  same_source net (FromConstant v) (FromConstant w) x a b = cc
  same_source net (FromConstant v) (FromPin i pin) x a (inl b) = let e = b.1 in cc
  same_source net (FromConstant v) (FromPin i pin) x a (inr b) = let e = b.2.2.1 in cc
  same_source net (FromPin i pin) (FromPort q) x (inl a) b = let e = a.1 in cc
  same_source net (FromPin i pin) (FromPort q) x (inr a) b = let e = a.2.2.1 in cc
  same_source net (FromPin i pin) (FromConstant w) x (inl a) b = let e = a.1 in cc
  same_source net (FromPin i pin) (FromConstant w) x (inr a) b = let e = a.2.2.1 in cc
  same_source net (FromPin i pin) (FromPin j other) x (inl a) (inl b) =
      let e : FromPin (get_or pl i 0) pin ≡ FromPin (get_or pl j 0) other = sym a.1 ∙ b.1 in
      let one : get_or pl i 0 ≡ get_or pl j 0 = cc in
      let p : pin ≡ other = cc in
      let k = places_distinct i j a.0 b.0 one in
      cc
  same_source net (FromPin i pin) (FromPin j other) x (inl a) (inr b) =
      let e : FromPin (get_or pl i 0) pin ≡ FromPin b.2.0 b.2.2.0 = sym a.1 ∙ b.2.2.1 in
      let one : get_or pl i 0 ≡ b.2.0 = cc in
      absurd (not_both (get_or pl i 0) (get_or_contains pl i a.0) (subst (Contains members) (sym one) b.2.1))
  same_source net (FromPin i pin) (FromPin j other) x (inr a) (inl b) =
      let e : FromPin (get_or pl j 0) other ≡ FromPin a.2.0 a.2.2.0 = sym b.1 ∙ a.2.2.1 in
      let one : get_or pl j 0 ≡ a.2.0 = cc in
      absurd (not_both (get_or pl j 0) (get_or_contains pl j b.0) (subst (Contains members) (sym one) a.2.1))
  same_source net (FromPin i pin) (FromPin j other) x (inr a) (inr b) =
      let p = same_pin pin other net a.1 b.1 in
      let k : i ≡ j = a.0 ∙ sym b.0 in
      cc

  driven : (net : ℕ) → net < net_count d → (s : Source) × Drives d net s
  driven net lt =
      let s = is.driven net (subst (λ k. net < k) (nets_are chip members) lt) in
      from_chip net s.0 s.1

  one_driver : (net : ℕ) (s t : Source) → Drives d net s → Drives d net t → s ≡ t
  one_driver net s t a b =
      let x = to_chip net s a in
      let y = to_chip net t b in
      let e = is.one_driver net x.0 y.0 x.1 y.1 in
      same_source net s t y.0 (subst (λ z. IsOf net s z) e x.2) y.2

  pub draft_wired : (order : List ℕ) → IsOrder (Feeds d) (IsLibrary d) order → IsWired (record d { order = order })
  draft_wired order ordered = record {
    bodies = bodies;
    on_nets = on_nets;
    inputs_on_nets = inputs_on_nets;
    outputs_on_nets = outputs_on_nets;
    ports_on_nets = ports_on_nets;
    constants_on_nets = λ value net e. subst (λ k. net < k) (sym (nets_are chip members)) (is.constants_on_nets value net (sym (constant_kept value) ∙ e));
    few_parts = few_parts;
    few_ports = subst (λ xs. length xs < 2 ^ 32) (sym (ports_are chip members)) is.few_ports;
    few_nets = subst (λ k. k < 2 ^ 32) (sym (nets_are chip members)) is.few_nets;
    driven = driven;
    one_driver = one_driver;
    off_path = off_path;
    unread = unread;
    ordered = record { has = ordered.has; once = ordered.once; after = λ k u w at f. ordered.after k u w at (record { driver = f.driver; reader = f.reader; is_driver = f.is_driver; is_reader = f.is_reader; net = f.net; driven = f.driven; read = f.read }) };
  }

  -- a library instance has few output pins
  few_outputs : (raw : RawCell) → KeepsRules raw → role_count is_output raw.pins ≤ MOST_OUTPUTS
  few_outputs raw keeps = elim (cases_lt MOST_OUTPUTS (role_count is_output raw.pins)) [
    | inl many ↦ absurd (keeps (TooManyOutputs (role_count is_output raw.pins)) (refl, many))
    | inr few ↦ few
  ]

  few_scan : (qn : Option ℕ) (q so : ℕ) → length (q ∷ (option_to_list qn ++ so ∷ [])) ≤ 3
  few_scan None q so = omega arith
  few_scan (Some net) q so = omega arith

  few_pins_of : (body : Body) → IsBody d.cells body → length (output_nets body) < 2 ^ 32
  few_pins_of (Gate cell inputs outputs) g = let f = few_outputs (cell_of d.cells cell) g.keeps in let n = g.net_per_output in omega arith
  few_pins_of (Scan nets) g = let f = few_scan nets.qn nets.q nets.so in omega arith

  few_pins : All (λ (part : Part). length (output_nets part.body) < 2 ^ 32) d.parts
  few_pins k e lt = few_pins_of (get_or d.parts k e).body (bodies k e lt)

  pub draft_ready : IsReady d
  draft_ready = record {
    drafted = record {
      bodies = bodies;
      inputs_on_nets = inputs_on_nets;
      outputs_on_nets = outputs_on_nets;
      ports_on_nets = ports_on_nets;
      zero_on_net = λ net e. subst (λ k. net < k) (sym (nets_are chip members)) (is.constants_on_nets false net (sym (zero_is chip members) ∙ e));
      one_on_net = λ net e. subst (λ k. net < k) (sym (nets_are chip members)) (is.constants_on_nets true net (sym (one_is chip members) ∙ e));
      few_pins = few_pins;
      few_parts = few_parts;
      few_ports = subst (λ xs. length xs < 2 ^ 32) (sym (ports_are chip members)) is.few_ports;
      few_nets = subst (λ k. k < 2 ^ 32) (sym (nets_are chip members)) is.few_nets;
    };
    driven = λ net lt.
        let s = driven net lt in
        record { source = s.0; only = record { has = s.1; none_other = λ other h. one_driver net other s.0 h s.1 } };
    no_loop = draft_no_loop;
    wired = draft_wired;
  }

pub draft_has_no_loop_lem : DraftHasNoLoop
draft_has_no_loop_lem chip members can = draft_no_loop chip members can

pub draft_is_wired_lem : DraftIsWired
draft_is_wired_lem chip members order can ordered = draft_wired chip members can order ordered

pub draft_is_ready_lem : DraftIsReady
draft_is_ready_lem chip members can = draft_ready chip members can
