-- The merged chip, as the code makes it.
use Rattle.std.proofs.Common.{◌≡◌, ℕ, zero, suc, ◌+◌, ◌<◌, List, [], ◌∷◌, ◌++◌, length, map, take, replicate, Bool, true, false}
use Rattle.std.proofs.Common.{refl, sym, ◌∙◌, ap, arith, get_or, Option, Some, None}
use Rattle.std.specs.Prelude.{slice_get, not, if◌then◌else◌, ◌||◌, option_to_list}
use Rattle.std.specs.List.{All, filter, range_with_len}
use Rattle.std.proofs.lemmas.List.{length-append, length-map, map-append, take_more, get_or_default, length-replicate, get_or-replicate}
use Rattle.std.proofs.lemmas.Option.{get_or_from_slice_get, slice_get_within}
use Rattle.ca_cell.specs.declared.raw.RawCell.{RawCell}
use Rattle.ca_cell.specs.declared.library.Entry.TheVariants.{Sound}
use Rattle.ca_cell.specs.Library.{Named, raw_of, HasOneMore}
use Rattle.ca_flat.specs.Chip.{Constant}
use Rattle.ca_linked.specs.declared.parts.Body.{Body}
use Rattle.ca_linked.specs.declared.parts.Part.{Part}
use Rattle.ca_linked.specs.declared.parts.PortBit.{PortBit}
use Rattle.ca_linked.specs.declared.parts.Body.TheVariants.{Gate, Scan}
use Rattle.ca_linked.specs.Linked.{LinkedChip, net_count, is_scan_path, IsWired, inputs_of, outputs_of}
use Rattle.ca_view.specs.Core.{core_net, core_kinds, core_instance, core_of, constant_on, in_net_order, kind_of, trit_of}
use Rattle.ca_merged.specs.Cluster.{is_member, cluster_cell}
use Rattle.ca_merged.specs.Merged.{merged, cluster_place}
use Rattle.ca_linked.specs.Linked.{has}
use Rattle.ca_linked.specs.Paths.{mark_at, Marks}
use Rattle.ca_merge.specs.declared.pins.ClusterNets.{ClusterNets}
use Rattle.ca_merge.specs.code.Pins.{AreClusterNets}
use Rattle.ca_merge.specs.Draft.{part_of, no_part, AreGates, other_parts, cluster_part, merged_draft}
use Rattle.ca_merge.specs.Draft.{cluster_input_nets, cluster_output_nets}
use Rattle.ca_merge.proofs.ListLemmas.{map_same}
use Rattle.ca_merge.proofs.PinLemmas.{passing_more}
use Rattle.ca_merge.proofs.DraftLemmas.{same_chip, places_are, parts_are, all_same, gate_at}

-- the marks of members
pub marks_fit : (chip : LinkedChip) (members : List ℕ) (marks : List Bool) (n : ℕ) → IsWired chip → AreGates chip members → n ≡ length chip.parts
    → length marks ≡ n → All (λ u. u < length marks) members
marks_fit chip members marks n is gates count room k d lt =
    let g = (gate_at chip members is gates (get_or members k d) (k, lt, get_or_default members k (get_or members k d) d lt)).0 in
    omega arith

pub marked_same : (marks new : List Bool) (xs members : List ℕ) (n k : ℕ) → marks ≡ replicate n false → Marks xs marks new → xs ≡ members → k < n
    → mark_at new k ≡ is_member members k
marked_same marks new xs members n k none marked same lt =
    let room : length marks ≡ n = ap (λ ms. length ms) none ∙ length-replicate n false in
    marked.each k (omega arith) ∙ ap (λ b. b || has xs k) (ap (λ ms. mark_at ms k) none ∙ get_or-replicate n k false false lt)
    ∙ ap (λ ys. has ys k) same

-- the instances that aren't members, with the next
pub others_more : (chip : LinkedChip) (members : List ℕ) (u : ℕ) (part : Part) (skipped : Bool) (now new : List Part) → slice_get chip.parts u ≡ Some part
    → skipped ≡ is_member members u → now ≡ map (part_of chip) (filter (λ w. not (is_member members w)) (range_with_len 0 u))
    → new ≡ now ++ (if skipped then [] else part ∷ [])
    → new ≡ map (part_of chip) (filter (λ w. not (is_member members w)) (range_with_len 0 (u + 1)))
others_more chip members u part skipped now new at same was grown =
    grown
    ∙ ap (λ xs. xs ++ (if skipped then [] else part ∷ [])) was
    ∙ ap (λ xs. map (part_of chip) (filter (λ w. not (is_member members w)) (range_with_len 0 u)) ++ xs)
    (by skipped same)
    ∙ sym (map-append (part_of chip) (filter (λ w. not (is_member members w)) (range_with_len 0 u)) (if not (is_member members u) then u ∷ [] else []))
    ∙ ap (map (part_of chip)) (sym (passing_more (λ w. not (is_member members w)) u))
  where
    here : part ≡ part_of chip u
    here = sym (get_or_from_slice_get chip.parts u part no_part at)

    by : (b : Bool) → b ≡ is_member members u → (if b then [] else part ∷ []) ≡ map (part_of chip) (if not (is_member members u) then u ∷ [] else [])
    by true e = ap (λ c. map (part_of chip) (if not c then u ∷ [] else [])) e
    by false e = ap (λ p. p ∷ []) here ∙ ap (λ c. map (part_of chip) (if not c then u ∷ [] else [])) e

-- the ports, with the next
pub ports_more : (ports now new : List PortBit) (p : ℕ) (port copied : PortBit) → slice_get ports p ≡ Some port → copied ≡ port → now ≡ take p ports
    → new ≡ now ++ copied ∷ [] → new ≡ take (p + 1) ports
ports_more ports now new p port copied at same was grown =
    let lt = slice_get_within ports p port at in
    grown ∙ ap (λ xs. xs ++ copied ∷ []) was ∙ ap (λ x. take p ports ++ x ∷ []) (same ∙ sym (get_or_from_slice_get ports p port port at))
    ∙ sym (take_more ports p port lt)

-- the nets of the cluster's pins
pub listed_inputs : (chip : LinkedChip) (members : List ℕ) (nets : ClusterNets) → AreClusterNets chip members nets → nets.inputs.nets ≡ cluster_input_nets chip members
unfolding cluster_input_nets
listed_inputs chip members nets tables = tables.inputs.listed

pub listed_outputs : (chip : LinkedChip) (members : List ℕ) (nets : ClusterNets) → AreClusterNets chip members nets → nets.outputs.nets ≡ cluster_output_nets chip members
unfolding cluster_output_nets
listed_outputs chip members nets tables = tables.outputs.listed

-- the draft by its parts
pub draft_is : (chip : LinkedChip) (members : List ℕ) (cells : List RawCell) (parts : List Part) (ports : List PortBit) (nets : ℕ) (low high : Option ℕ)
    → cells ≡ chip.cells ++ (cluster_cell (core_of chip) members ∷ []) → nets ≡ chip.nets → low ≡ chip.zero → high ≡ chip.one
    → parts ≡ other_parts chip members ++ (cluster_part chip members ∷ []) → ports ≡ chip.ports
    → (let made : LinkedChip = record { cells = cells; nets = nets; zero = low; one = high; parts = parts; ports = ports; order = [] } in made ≡ merged_draft chip members)
unfolding merged_draft
draft_is chip members cells parts ports nets low high a b c d e f = cc

-- a library with one more cell
pub one_cell_more : (old new : List Named) (cells : List RawCell) (raw cell : RawCell) → HasOneMore old raw new → map (λ (named : Named). raw_of named.entry) old ≡ cells
    → raw ≡ cell → map (λ (named : Named). raw_of named.entry) new ≡ cells ++ cell ∷ []
one_cell_more old new cells raw cell more same is =
    let last : Named = record { name = more.name; entry = Sound raw } in
    ap (map (λ (named : Named). raw_of named.entry)) more.is
    ∙ map-append (λ (named : Named). raw_of named.entry) old (last ∷ [])
    ∙ ap (λ xs. xs ++ raw ∷ []) same ∙ ap (λ x. cells ++ x ∷ []) is

-- an order of the instances changes nothing in the core
module _ (d : LinkedChip) (order : List ℕ) where
  abbrev o : LinkedChip
  o = record d { order = order }

  number : (net : ℕ) → core_net o net ≡ core_net d net
  unfolding core_net
  number zero = refl
  number (suc net) = ap (λ k. k + (if is_scan_path d net then 0 else 1)) (number net)

  kinds : (n : ℕ) → core_kinds o n ≡ core_kinds d n
  unfolding core_kinds
  kinds zero = refl
  kinds (suc net) = ap (λ xs. xs ++ (if is_scan_path d net then [] else kind_of d net ∷ [])) (kinds net)

  instance : (body : Body) → core_instance o body ≡ core_instance d body
  instance (Gate cell inputs outputs) = let p = map_same (core_net o) (core_net d) number (inputs ++ outputs) in cc
  instance (Scan nets) = let p = map_same (core_net o) (core_net d) number (option_to_list nets.qn) in cc

  constant : (value : Bool) (at : Option ℕ) → constant_on o value at ≡ constant_on d value at
  constant value None = refl
  constant value (Some net) =
      ap (λ k. if is_scan_path d net then [] else (let c : Constant = record { net = k; value = trit_of value } in c) ∷ []) (number net)

  pub core_ordered : core_of o ≡ core_of d
  core_ordered = same_chip _ _ _ _ _ _ _ _ _ _
      (kinds (net_count d))
      (map_same (λ (part : Part). core_instance o part.body) (λ (part : Part). core_instance d part.body) (λ part. instance part.body) d.parts)
      (map_same (core_net o) (core_net d) number (inputs_of d))
      (ap (λ xs. in_net_order xs (constant_on o true d.one)) (constant false d.zero) ∙ ap (in_net_order (constant_on d false d.zero)) (constant true d.one))
      (map_same (core_net o) (core_net d) number (outputs_of d))

pub made_core : (chip : LinkedChip) (members : List ℕ) (made : LinkedChip) → IsWired chip → AreGates chip members
    → made ≡ record (merged_draft chip members) { order = made.order } → core_of made ≡ merged (core_of chip) members
made_core chip members made is gates same = ap core_of same ∙ core_ordered (merged_draft chip members) made.order ∙ all_same chip members is gates

-- the cluster is the last instance
pub parts_counted : (chip : LinkedChip) (members : List ℕ) → IsWired chip → AreGates chip members
    → length (merged_draft chip members).parts ≡ cluster_place (core_of chip) members + 1
parts_counted chip members is gates =
    ap (λ xs. length xs) (parts_are chip members)
    ∙ length-append (other_parts chip members) (cluster_part chip members ∷ [])
    ∙ ap (λ k. k + 1) (length-map (filter (λ u. not (is_member members u)) (range_with_len 0 (length chip.parts))) (part_of chip)
    ∙ ap (λ xs. length xs) (places_are chip members is gates))
