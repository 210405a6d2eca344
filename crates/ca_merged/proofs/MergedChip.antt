-- A merged chip is a chip.
use Rattle.std.proofs.Common.{◌≡◌, ℕ, ◌+◌, ◌-◌, ◌<◌, List, length, Bool, true}
use Rattle.std.proofs.Common.{false, cond, ltb, inl, inr, refl, sym, ◌∙◌, ap, subst, arith, get_or}
use Rattle.std.specs.List.{Contains, sum_by, range_with_len}
use Rattle.std.proofs.lemmas.Bool.{cases_lt, cases_Bool, both_ways, cond_below, cond_above, cond-true, cond-false}
use Rattle.std.proofs.lemmas.List.Sums.{get_or-le-sum_by}
use Rattle.std.proofs.lemmas.List.FromFn.{length-range_with_len, get_or-range_with_len}
use Rattle.ca_net.specs.declared.node.NodeKind.TheVariants.{Input}
use Rattle.ca_cell.specs.declared.rule.CellRule.TheVariants.{NoOutput}
use Rattle.ca_cell.specs.Rules.{KeepsAllBut}
use Rattle.ca_flat.specs.Chip.{Chip, IsChip, IsCell, Drives, instance_at, cell_at, inputs_at, outputs_at}
use Rattle.ca_flat.specs.Chip.{net_of, count_of, net_kind}
use Rattle.ca_merged.specs.Cluster.{is_driven, cluster_inputs, cluster_outputs, cluster_cell}
use Rattle.ca_merged.specs.Merged.{FeedsInstance, AreMembers, merged}
use Rattle.ca_merged.proofs.Lists.{get_or_contains}
use Rattle.ca_merged.proofs.Nets.{IsFedNet, input_holds, output_holds, outputs_distinct, read_by}
use Rattle.ca_merged.proofs.Nets.{is_driven_at}
use Rattle.ca_merged.proofs.Seats.{ni, no, cluster_is_cell}
use Rattle.ca_merged.proofs.Instances.{oth, last, whole, other_at, others_distinct, place_cases}
use Rattle.ca_merged.proofs.Instances.{instance_other, instance_last, inputs_other, outputs_other, net_other}
use Rattle.ca_merged.proofs.Instances.{inputs_last, outputs_last, input_net_last, output_net_last, ChipDrive}
use Rattle.ca_merged.proofs.Instances.{chip_drive, whole_drive}
use Rattle.ca_merged.proofs.After.{AreAfter}

-- the nets of a merged chip are the chip's
nets_kept : (chip : Chip) (members : List ℕ) → (whole chip members).nets ≡ chip.nets
unfolding merged
nets_kept chip members = refl

outputs_kept : (chip : Chip) (members : List ℕ) → (whole chip members).outputs ≡ chip.outputs
unfolding merged
outputs_kept chip members = refl

module _ (chip : Chip) (members : List ℕ) (rank : ℕ → ℕ) (is : IsChip chip rank) (are : AreMembers chip members)
    (keeps : KeepsAllBut NoOutput (cluster_cell chip members)) where
  kind_kept : (net : ℕ) → net_kind (whole chip members) net ≡ net_kind chip net
  kind_kept net = ap (λ xs. get_or xs net Input) (nets_kept chip members)

  within_kept : (net : ℕ) → net < length (whole chip members).nets → net < length chip.nets
  within_kept net lt = subst (λ xs. net < length xs) (nets_kept chip members) lt

  cells : (i : ℕ) → i < count_of (whole chip members) → IsCell (cell_at (whole chip members) i)
  cells i lt = elim (place_cases chip members i lt) [
    | inl less ↦ subst (λ x. IsCell x.cell) (sym (instance_other chip members i less)) (is.cells (get_or (oth chip members) i 0) (other_at chip members i less).known)
    | inr at ↦
        subst (λ x. IsCell x.cell) (sym (ap (instance_at (whole chip members)) at ∙ instance_last chip members))
        (cluster_is_cell chip members rank is are.known keeps)
  ]

  -- the net of a pin of the cluster
  last_net : (pin : ℕ) → pin < ni chip members + no chip members → net_of (whole chip members) (last chip members) pin < length chip.nets
  last_net pin lt = elim (cases_lt pin (ni chip members)) [
    | inl input ↦
        subst (λ x. x < length chip.nets) (sym (input_net_last chip members pin input))
        (input_holds chip members _ (get_or_contains (cluster_inputs chip members) pin input)).within
    | inr past ↦
        let less : pin - ni chip members < no chip members = omega arith in
        let e : inputs_at (whole chip members) (last chip members) + (pin - ni chip members) ≡ pin = let i = inputs_last chip members in omega arith in
        subst (λ x. net_of (whole chip members) (last chip members) x < length chip.nets) e
        (subst (λ x. x < length chip.nets) (sym (output_net_last chip members (pin - ni chip members)))
        (output_holds chip members _ (get_or_contains (cluster_outputs chip members) (pin - ni chip members) less)).0)
  ]

  on_nets : (i pin : ℕ) → i < count_of (whole chip members) → pin < inputs_at (whole chip members) i + outputs_at (whole chip members) i
      → net_of (whole chip members) i pin < length (whole chip members).nets
  on_nets i pin lt within = subst (λ xs. net_of (whole chip members) i pin < length xs) (sym (nets_kept chip members)) (elim (place_cases chip members i lt) [
    | inl less ↦
        let a = inputs_other chip members i less in let b = outputs_other chip members i less in
        subst (λ x. x < length chip.nets) (sym (net_other chip members i pin less))
        (is.on_nets (get_or (oth chip members) i 0) pin (other_at chip members i less).known (omega arith))
    | inr at ↦
        let a = ap (inputs_at (whole chip members)) at ∙ inputs_last chip members in
        let b = ap (outputs_at (whole chip members)) at ∙ outputs_last chip members in
        subst (λ x. net_of (whole chip members) x pin < length chip.nets) (sym at) (last_net pin (omega arith))
  ])

  back : (net : ℕ) (p : Drives (whole chip members) net) → ChipDrive chip members net p
  back net p = chip_drive chip members are.known net p

  one_driver : (net : ℕ) (p q : Drives (whole chip members) net) → (p.instance ≡ q.instance) × (p.output ≡ q.output)
  one_driver net p q = by (back net p) (back net q)
    where
      by : (a : ChipDrive chip members net p) (b : ChipDrive chip members net q) → (p.instance ≡ q.instance) × (p.output ≡ q.output)
      by a b =
          let one = is.one_driver net a.drive b.drive in
          elim a.from [
            | inl x ↦ elim b.from [
              | inl y ↦ (
                others_distinct chip members p.instance q.instance x.0 y.0 (sym x.1 ∙ one.0 ∙ y.1),
                sym x.2 ∙ one.1 ∙ y.2,
              )
              | inr y ↦ absurd ((other_at chip members p.instance x.0).out (subst (Contains members) (sym one.0 ∙ x.1) y.1))
            ]
            | inr x ↦ elim b.from [
              | inl y ↦ absurd ((other_at chip members q.instance y.0).out (subst (Contains members) (one.0 ∙ y.1) x.1))
              | inr y ↦ (
                x.0 ∙ sym y.0,
                outputs_distinct chip members p.output q.output x.2 y.2 (x.3 ∙ sym y.3),
              )
            ]
          ]

  -- a rank that puts the cluster between what isn't after it and what is
  top : ℕ
  top = 1 + sum_by rank (range_with_len 0 (count_of chip))

  below_top : (u : ℕ) → u < count_of chip → rank u < top
  unfolding top
  below_top u lt =
      let l = length-range_with_len 0 (count_of chip) in
      let h = get_or-le-sum_by rank (range_with_len 0 (count_of chip)) u 0 (omega arith) in
      let e : rank (get_or (range_with_len 0 (count_of chip)) u 0) ≡ rank u = ap rank (get_or-range_with_len 0 (count_of chip) u 0 lt ∙ (omega arith)) in
      omega arith

  module _ (after : ℕ → Bool) (marks : AreAfter chip members after) where
    other_rank : ℕ → ℕ
    other_rank u = cond (after u) (top + 1 + rank u) (rank u)

    pub new_rank : ℕ → ℕ
    new_rank i = cond (ltb i (last chip members)) (other_rank (get_or (oth chip members) i 0)) top

    rank_other : (i : ℕ) → i < last chip members → new_rank i ≡ other_rank (get_or (oth chip members) i 0)
    unfolding new_rank
    rank_other i lt = sym (cond_below i (last chip members) _ _ lt)

    rank_last : (i : ℕ) → i ≡ last chip members → new_rank i ≡ top
    unfolding new_rank
    rank_last i at = sym (cond_above i (last chip members) _ _ _ (omega arith) refl)

    rank_after : (u : ℕ) → after u ≡ true → other_rank u ≡ top + 1 + rank u
    unfolding other_rank
    rank_after u h = cond-true (after u) (top + 1 + rank u) (rank u) h

    rank_before : (u : ℕ) → after u ≡ false → other_rank u ≡ rank u
    unfolding other_rank
    rank_before u h = cond-false (after u) (top + 1 + rank u) (rank u) h

    -- an other feeds an other
    others_rise : (w u : ℕ) → FeedsInstance chip w u → rank w < rank u → other_rank w < other_rank u
    others_rise w u f less = elim (cases_Bool (after w)) [
      | inl hw ↦ let a = rank_after w hw in let b = rank_after u (marks.goes_on w u hw f) in omega arith
      | inr nw ↦
          let a = rank_before w nw in
          elim (cases_Bool (after u)) [
            | inl hu ↦ let b = rank_after u hu in let t = below_top w f.known in omega arith
            | inr nu ↦ let b = rank_before u nu in omega arith
          ]
    ]

    feed : (u pin : ℕ) → u < count_of chip → pin < inputs_at chip u → (d : Drives chip (net_of chip u pin)) → FeedsInstance chip d.instance u
    feed u pin lt within d = record { known = d.known; fed_known = lt; output = d.output; output_within = d.within; pin = pin; pin_within = within; on = d.on }

    -- the driver of a net on an input pin of an other
    rises_to_other : (i pin : ℕ) → (lt : i < last chip members) → pin < inputs_at chip (get_or (oth chip members) i 0)
        → (p : Drives (whole chip members) (net_of chip (get_or (oth chip members) i 0) pin)) → new_rank p.instance < new_rank i
    rises_to_other i pin lt within p =
        let u = get_or (oth chip members) i 0 in
        let o = other_at chip members i lt in
        let b = back (net_of chip (get_or (oth chip members) i 0) pin) p in
        let f : FeedsInstance chip b.drive.instance (get_or (oth chip members) i 0) = feed u pin o.known within b.drive in
        let ri : new_rank i ≡ other_rank (get_or (oth chip members) i 0) = rank_other i lt in
        elim b.from [
          | inl x ↦
              let less : rank b.drive.instance < rank (get_or (oth chip members) i 0) = is.ranked u pin o.known within b.drive in
              let r = others_rise b.drive.instance (get_or (oth chip members) i 0) f less in
              let rp : new_rank p.instance ≡ other_rank b.drive.instance = rank_other p.instance x.0 ∙ ap other_rank (sym x.1) in
              omega arith
          | inr x ↦
              let hu : after (get_or (oth chip members) i 0) ≡ true = marks.begins b.drive.instance (get_or (oth chip members) i 0) x.1 f o.out in
              let bu = rank_after (get_or (oth chip members) i 0) hu in
              let rp : new_rank p.instance ≡ top = rank_last p.instance x.0 in
              omega arith
        ]

    -- the driver of a net on an input pin of the cluster
    rises_to_cluster : (net : ℕ) → IsFedNet chip members net → (p : Drives (whole chip members) net) → new_rank p.instance < top
    rises_to_cluster net fed p =
        let b = back net p in
        let r = read_by chip members net fed.read in
        let f : FeedsInstance chip b.drive.instance r.member =
        record { known = b.drive.known; fed_known = are.known r.member r.listed; output = b.drive.output; output_within = b.drive.within; pin = r.pin; pin_within = r.within; on = b.drive.on ∙ sym r.on } in
        elim b.from [
          | inl x ↦
              let rp : new_rank p.instance ≡ other_rank b.drive.instance = rank_other p.instance x.0 ∙ ap other_rank (sym x.1) in
              elim (cases_Bool (after b.drive.instance)) [
                | inl hw ↦ absurd (marks.leaves r.member (marks.goes_on b.drive.instance r.member hw f) r.listed)
                | inr nw ↦ let a = rank_before b.drive.instance nw in let t = below_top b.drive.instance b.drive.known in omega arith
              ]
          | inr x ↦
              absurd (both_ways (is_driven chip members net) fed.undriven
              (subst (λ y. is_driven chip members y ≡ true) b.drive.on (is_driven_at chip members b.drive.instance b.drive.output x.1 b.drive.within)))
        ]

    ranked : (i pin : ℕ) → i < count_of (whole chip members) → pin < inputs_at (whole chip members) i
        → (p : Drives (whole chip members) (net_of (whole chip members) i pin)) → new_rank p.instance < new_rank i
    ranked i pin lt within p = elim (place_cases chip members i lt) [
      | inl less ↦
          let a = inputs_other chip members i less in
          let e = net_other chip members i pin less in
          let q : Drives (whole chip members) (net_of chip (get_or (oth chip members) i 0) pin) =
          record { instance = p.instance; output = p.output; known = p.known; within = p.within; on = p.on ∙ e } in
          rises_to_other i pin less (omega arith) q
      | inr at ↦
          let a = ap (inputs_at (whole chip members)) at ∙ inputs_last chip members in
          let input : pin < ni chip members = omega arith in
          let e : net_of (whole chip members) i pin ≡ get_or (cluster_inputs chip members) pin 0 =
          ap (λ x. net_of (whole chip members) x pin) at ∙ input_net_last chip members pin input in
          let q : Drives (whole chip members) (get_or (cluster_inputs chip members) pin 0) =
          record { instance = p.instance; output = p.output; known = p.known; within = p.within; on = p.on ∙ e } in
          let fed = input_holds chip members _ (get_or_contains (cluster_inputs chip members) pin input) in
          subst (λ x. new_rank p.instance < x) (sym (rank_last i at)) (rises_to_cluster (get_or (cluster_inputs chip members) pin 0) fed q)
    ]

    -- the merged chip is a chip
    pub merged_is_chip : IsChip (whole chip members) new_rank
    merged_is_chip = record {
      cells = cells;
      on_nets = on_nets;
      driven = λ net lt storage. whole_drive chip members are.known net (within_kept net lt)
          (is.driven net (within_kept net lt) (λ e. storage (kind_kept net ∙ e)));
      drives = λ net p. kind_kept net ∙ is.drives net (back net p).drive;
      one_driver = one_driver;
      ranked = ranked;
      observed = λ net c. subst (λ xs. net < length xs) (sym (nets_kept chip members)) (is.observed net (subst (λ xs. Contains xs net) (outputs_kept chip members) c));
    }
