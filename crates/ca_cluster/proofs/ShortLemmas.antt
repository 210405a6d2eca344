-- The seats of a bridge's ends in a merged chip.
use Rattle.std.proofs.Common.{◌≡◌, ℕ, ◌+◌, ◌-◌, ◌<◌, ◌≤◌, ◌^◌, List, [], ◌∷◌, ◌++◌, length, map, drop, true, false}
use Rattle.std.proofs.Common.{eqb, inl, inr, sym, ◌∙◌, ap, subst, arith, get_or, Some}
use Rattle.std.specs.Prelude.{slice_get, IsSomeAnd, not}
use Rattle.std.specs.List.{Contains, position_or_len}
use Rattle.std.proofs.lemmas.Bool.{cases_lt, cond-true, cond-false, eq-eqb, ne_eqb}
use Rattle.std.proofs.lemmas.List.{length-append, length-map, get_or-map, get_or_push, drop_more}
use Rattle.std.proofs.lemmas.List.Sums.{position_or_len_is, prefix_len-le-length}
use Rattle.std.proofs.Math.ListN.{drop_of_length-le}
use Rattle.std.proofs.lemmas.Option.{slice_get-get_or, slice_get_within, get_or_from_slice_get}
use Rattle.ca_cell.specs.declared.rule.TheConstants.{MOST_NODES}
use Rattle.ca_cell.specs.declared.raw.RawCell.{RawCell}
use Rattle.ca_cell.specs.Raw.{circuit_of}
use Rattle.ca_cell.specs.Rules.{node_count, KeepsRules}
use Rattle.ca_cell.proofs.CircuitLemmas.{few_nodes, length-nodes_of}
use Rattle.ca_linked.specs.declared.parts.Part.{Part}
use Rattle.ca_linked.specs.declared.parts.ScanNets.{ScanNets}
use Rattle.ca_linked.specs.declared.parts.Body.TheVariants.{Gate, Scan}
use Rattle.ca_linked.specs.Linked.{LinkedChip, IsWired, IsGate, IsLibrary}
use Rattle.ca_linked.specs.Instances.{pin_nets}
use Rattle.ca_flat.specs.Chip.{circuit_at, inputs_at, outputs_at, net_of, count_of}
use Rattle.ca_flat.specs.Flat.{outer_count, inner_count}
use Rattle.ca_flat.specs.Chip as flat
use Rattle.ca_view.specs.Core.{core_net, core_of, rank_of}
use Rattle.ca_view.proofs.CoreIsChip.{core_is}
use Rattle.ca_view.proofs.PartFacts.{some_at, pin_read}
use Rattle.ca_merged.specs.Blocks.{block_start}
use Rattle.ca_merged.specs.Cluster.{is_driven, cluster_cell, cluster_outputs, input_count, output_count, net_seat, seat}
use Rattle.ca_merged.specs.Bridge.{IsInCluster}
use Rattle.ca_merged.proofs.Lists.{at_place, place_of, get_or_contains}
use Rattle.ca_merged.proofs.Nets.{is_driven_at, outputs_distinct}
use Rattle.ca_merged.proofs.Seats.{seat_rail, seat_pin, seat_inner, seat_within, output_seat, node_count_is}
use Rattle.ca_merge.specs.Draft.{AreGates, part_of, cluster_part, other_parts, cluster_input_nets, cluster_output_nets, drives_net}
use Rattle.ca_merge.proofs.DraftLemmas.{parts_are, places, places_are, outputs_numbered, inputs_numbered, driven_same, output_net_listed}
use Rattle.ca_cluster.specs.code.Hands.{IsInHand}
use Rattle.ca_cluster.proofs.EndLemmas.{pin_outside}

module _ (chip : LinkedChip) (members : List ℕ) (made : LinkedChip) (last : ℕ) (is : IsWired chip) (hand : IsInHand chip members made last) where
  abbrev core : flat.Chip
  core = core_of chip

  abbrev ins : List ℕ
  ins = cluster_input_nets chip members

  abbrev outs : List ℕ
  outs = cluster_output_nets chip members

  -- the cluster is the last instance
  pub last_part : slice_get made.parts last ≡ Some (cluster_part chip members)
  last_part =
      let same : made.parts ≡ other_parts chip members ++ (cluster_part chip members ∷ []) = ap (λ (d : LinkedChip). d.parts) hand.merged.is ∙ parts_are chip members in
      let count : length (other_parts chip members) ≡ last =
      length-map (places chip members) (part_of chip) ∙ ap (λ xs. length xs) (places_are chip members is hand.gates) ∙ sym hand.merged.place in
      let l = length-append (other_parts chip members) (cluster_part chip members ∷ []) in
      ap (λ ps. slice_get ps last) same
      ∙ slice_get-get_or (other_parts chip members ++ (cluster_part chip members ∷ [])) last (cluster_part chip members) (omega arith)
      ∙ ap Some (get_or_push (other_parts chip members) (cluster_part chip members) (cluster_part chip members) last count)

  pub last_known : last < length made.parts
  last_known = slice_get_within made.parts last (cluster_part chip members) last_part

  pub last_library : IsLibrary made last
  last_library = some_at (λ part. IsGate part.body) made.parts last (cluster_part chip members) last_part tt

  pub last_body : (part : Part) → slice_get made.parts last ≡ Some part → part.body ≡ Gate (length chip.cells) ins outs
  last_body part at = let both : Some part ≡ Some (cluster_part chip members) = sym at ∙ last_part in let same : part ≡ cluster_part chip members = cc in ap (λ (p : Part). p.body) same

  pub last_no_scan : (part : Part) (nets : ScanNets) → slice_get made.parts last ≡ Some part → part.body ≡ Scan nets → ⊥
  last_no_scan part nets at body = let e : Gate (length chip.cells) ins outs ≡ Scan nets = sym (last_body part at) ∙ body in cc

  inputs_counted : length ins ≡ input_count core members
  inputs_counted = sym (length-map ins (core_net chip)) ∙ ap (λ xs. length xs) (inputs_numbered chip members is hand.gates)

  outputs_counted : length outs ≡ output_count core members
  outputs_counted = sym (length-map outs (core_net chip)) ∙ ap (λ xs. length xs) (outputs_numbered chip members is hand.gates)

  nodes_few : node_count (cluster_cell core members) ≤ MOST_NODES
  nodes_few = few_nodes (cluster_cell core members) hand.keeps

  -- there are few pins
  pub pins_few : 2 + length ins + length outs ≤ 192
  pins_few =
      let few = nodes_few in
      let c = node_count_is core members in
      let a = inputs_counted in
      let b = outputs_counted in
      omega arith

  module _ (u n : ℕ) (inside : IsInCluster core members u n) where
    -- the net of a pin is one that a member drives
    pub pin_driven : 2 ≤ n → n < outer_count core u → is_driven core members (net_of core u (n - 2)) ≡ true
    pin_driven ge lt = elim inside [
      | inl rail ↦ absurd (omega arith)
      | inr other ↦ elim other [
        | inl d ↦
            let e : d.pin ≡ n - 2 = let s = d.node in omega arith in
            subst (λ k. is_driven core members k ≡ true) (d.driver.on ∙ ap (net_of core u) e)
            (is_driven_at core members d.driver.instance d.driver.output d.member d.driver.within)
        | inr inner ↦ absurd (let a = inner.0 in omega arith)
      ]
    ]

    pub inner_member : outer_count core u ≤ n → Contains members u
    inner_member ge = elim inside [
      | inl rail ↦ absurd (omega arith)
      | inr other ↦ elim other [
        | inl d ↦ absurd (let a = d.outer in omega arith)
        | inr inner ↦ inner.1
      ]
    ]

    module _ (within : n < length (circuit_at core u).nodes) (known : u < count_of core) where
      -- the seat is few enough for a number of 32 bits
      pub seat_few : seat core members u n < 2 ^ 32
      seat_few =
          let few = nodes_few in
          let c = node_count_is core members in
          elim (cases_lt n 2) [
            | inl rail ↦ let e = seat_rail core members u n rail in omega arith
            | inr ge ↦ elim (cases_lt n (outer_count core u)) [
              | inl pin ↦
                  let e = seat_pin core members u n (n - 2) (omega arith) pin in
                  let o = output_seat core members (net_of core u (n - 2)) ((core_is chip is).on_nets u (n - 2) known (omega arith)) (pin_driven ge pin) in
                  let at = o.at in let lt = o.within in
                  omega arith
              | inr past ↦ let w = seat_within core members (rank_of chip) (core_is chip is) hand.are.known u n (inner_member past) within in omega arith
            ]
          ]

    -- the seat of a pin
    pub pin_seat : (i o net : ℕ) → i ≡ inputs_at core u → o ≡ outputs_at core u → IsLibrary chip u → 2 ≤ n → n < 2 + i + o
        → IsSomeAnd (slice_get chip.parts u) (λ part. slice_get (pin_nets part.body) (n - 2) ≡ Some net)
        → 2 + length ins + position_or_len (eqb net) outs ≡ seat core members u n
    unfolding net_seat
    pin_seat i o net ei eo library ge lt on =
        let d = pin_outside chip is u (n - 2) net library on in
        let here : core_net chip net ≡ net_of core u (n - 2) = pin_read chip is u library (n - 2) net on in
        let driven : is_driven core members (core_net chip net) ≡ true = ap (is_driven core members) here ∙ pin_driven ge (omega arith) in
        let drives : drives_net chip members net ≡ true = driven_same chip members is hand.gates net d ∙ driven in
        let p = at_place outs net (output_net_listed chip members is hand.gates net drives) in
        let k = position_or_len (eqb net) outs in
        let all : map (core_net chip) outs ≡ cluster_outputs core members = outputs_numbered chip members is hand.gates in
        let there : get_or (cluster_outputs core members) (position_or_len (eqb net) outs) 0 ≡ core_net chip net =
        ap (λ xs. get_or xs (position_or_len (eqb net) outs) 0) (sym all)
        ∙ get_or-map (core_net chip) outs (position_or_len (eqb net) outs) 0 0 p.within ∙ ap (core_net chip) p.is in
        let less : position_or_len (eqb net) outs < length (cluster_outputs core members) = let c = outputs_counted in let w = p.within in omega arith in
        let place : position_or_len (eqb (core_net chip net)) (cluster_outputs core members) ≡ position_or_len (eqb net) outs =
        subst (λ x. position_or_len (eqb x) (cluster_outputs core members) ≡ position_or_len (eqb net) outs) there
        (place_of (cluster_outputs core members) (position_or_len (eqb net) outs) (outputs_distinct core members) less) in
        let count = inputs_counted in
        let whole : net_seat core members (core_net chip net) ≡ 2 + input_count core members + position_or_len (eqb (core_net chip net)) (cluster_outputs core members) =
        cond-true (is_driven core members (core_net chip net)) _ _ driven in
        let to : 2 + length ins + position_or_len (eqb net) outs ≡ net_seat core members (core_net chip net) = omega arith in
        to ∙ ap (net_seat core members) here ∙ sym (seat_pin core members u n (n - 2) (omega arith) (omega arith))

    -- the seat of an inner node
    pub inner_seat : (i o before : ℕ) → i ≡ inputs_at core u → o ≡ outputs_at core u → 2 + i + o ≤ n → before ≡ block_start (inner_count core) members u
        → 2 + length ins + length outs + before + (n - (2 + i + o)) ≡ seat core members u n
    inner_seat i o before ei eo ge start =
        let a = inputs_counted in
        let b = outputs_counted in
        let s = seat_inner core members u n (n - outer_count core u) (omega arith) in
        omega arith

-- the sum of the blocks before that of an instance
pub start_here : (size : ℕ → ℕ) (members : List ℕ) (u w k before : ℕ) → k < length members → w ≡ get_or members k 0 → w ≡ u
    → block_start size members u ≡ before + block_start size (drop k members) u → before ≡ block_start size members u
start_here size members u w k before lt at same so_far =
    let d : drop k members ≡ w ∷ drop (k + 1) members = drop_more members k 0 lt ∙ ap (λ x. x ∷ drop (k + 1) members) (sym at) in
    let z : block_start size (drop k members) u ≡ 0 =
    ap (λ xs. block_start size xs u) d ∙ cond-true (eqb w u) 0 (size w + block_start size (drop (k + 1) members) u) (eq-eqb w u same) in
    omega arith

pub start_later : (size : ℕ → ℕ) (members : List ℕ) (u w k before more : ℕ) → k < length members → w ≡ get_or members k 0 → (w ≡ u → ⊥) → more ≡ size w
    → block_start size members u ≡ before + block_start size (drop k members) u
    → block_start size members u ≡ before + more + block_start size (drop (k + 1) members) u
start_later size members u w k before more lt at other is so_far =
    let d : drop k members ≡ w ∷ drop (k + 1) members = drop_more members k 0 lt ∙ ap (λ x. x ∷ drop (k + 1) members) (sym at) in
    let z : block_start size (drop k members) u ≡ size w + block_start size (drop (k + 1) members) u =
    ap (λ xs. block_start size xs u) d ∙ cond-false (eqb w u) 0 (size w + block_start size (drop (k + 1) members) u) (ne_eqb w u other) in
    omega arith

pub start_none : (size : ℕ → ℕ) (members : List ℕ) (u k before : ℕ) → length members ≤ k
    → block_start size members u ≡ before + block_start size (drop k members) u → before ≡ block_start size members u
start_none size members u k before past so_far =
    let z : block_start size (drop k members) u ≡ 0 = ap (λ xs. block_start size xs u) (drop_of_length-le members past) in
    omega arith

-- the place of a net in a list
pub found_here : (nets : List ℕ) (net here k : ℕ) → slice_get nets k ≡ Some here → here ≡ net → ((j : ℕ) → j < k → eqb net (get_or nets j 0) ≡ false)
    → k ≡ position_or_len (eqb net) nets
found_here nets net here k at same none =
    let lt = slice_get_within nets k here at in
    sym (position_or_len_is (eqb net) nets k 0 (omega arith) none
    (λ _. eq-eqb net (get_or nets k 0) (sym same ∙ sym (get_or_from_slice_get nets k here 0 at))))

pub other_here : (nets : List ℕ) (net here k : ℕ) → slice_get nets k ≡ Some here → (here ≡ net → ⊥) → ((j : ℕ) → j < k → eqb net (get_or nets j 0) ≡ false)
    → (j : ℕ) → j < k + 1 → eqb net (get_or nets j 0) ≡ false
other_here nets net here k at other none j lt = elim (cases_lt j k) [
  | inl less ↦ none j less
  | inr ge ↦
      let e : j ≡ k = omega arith in
      ne_eqb net (get_or nets j 0) (λ s. other (sym (get_or_from_slice_get nets k here 0 at) ∙ ap (λ i. get_or nets i 0) (sym e) ∙ sym s))
]

pub none_here : (nets : List ℕ) (net k : ℕ) → length nets ≤ k → ((j : ℕ) → j < k → eqb net (get_or nets j 0) ≡ false)
    → length nets ≡ position_or_len (eqb net) nets
none_here nets net k past none =
    sym (position_or_len_is (eqb net) nets (length nets) 0 (omega arith) (λ j lt. none j (omega arith)) (λ lt. absurd (omega arith)))

-- the inner nodes of an instance
pub inner_is : (chip : LinkedChip) (u i o n : ℕ) → i ≡ inputs_at (core_of chip) u → o ≡ outputs_at (core_of chip) u → n ≡ length (circuit_at (core_of chip) u).nodes
    → n - (2 + i + o) ≡ inner_count (core_of chip) u
inner_is chip u i o n a b c = omega arith

pub library_at : (chip : LinkedChip) (members : List ℕ) (k u : ℕ) → AreGates chip members → k < length members → u ≡ get_or members k 0 → IsLibrary chip u
library_at chip members k u gates lt at = subst (IsLibrary chip) (sym at) (gates (get_or members k 0) (get_or_contains members k lt))

pub place_few : (nets : List ℕ) (net : ℕ) → position_or_len (eqb net) nets ≤ length nets
place_few nets net = prefix_len-le-length (λ x. not (eqb net x)) nets

pub cell_few : (raw : RawCell) → KeepsRules raw → length (circuit_of raw).nodes ≤ MOST_NODES
cell_few raw keeps = let f = few_nodes raw keeps in let l = length-nodes_of raw in omega arith
