-- The values of a region in 64 lanes.
use Rattle.std.specs.List.{All, Contains}
use Rattle.std.specs.Prelude.{slice_get, slice_index, slice_set}
use Rattle.std.proofs.Common.{◌≡◌, ◌≢◌, ℕ, zero, suc, ◌+◌, ◌-◌, ◌*◌, ◌/◌, ◌%◌, ◌^◌, ◌<◌, ◌≤◌, ◌==◌, ◌⊎◌, ◌&&◌}
use Rattle.std.proofs.Common.{not, Bool, true, false, List, length, inl, inr, refl, sym, ◌∙◌, ap, subst, arith, get_or, Some, not-suc-le-zero, le_of_suc-le-suc}
use Rattle.std.specs.Int.{bit_at}
use Rattle.std.proofs.lemmas.Bool.{cases_eq}
use Rattle.std.proofs.lemmas.List.{get_or-set_other, get_or-set_same, get_or_default}
use Rattle.std.proofs.lemmas.Nat.Bits.{bit_at_cat_low, bit_at_cat_high, bit_at-lt}
use Rattle.std.proofs.lemmas.Option.{get_or_from_slice_get, slice_get_within}
use Rattle.ca_net.specs.declared.trit.Trit.TheVariants.{X}
use Rattle.ca_net.specs.declared.wave.Wave.{Wave}
use Rattle.ca_net.specs.declared.scale.TheConstants.{OUTPUT_NET}
use Rattle.ca_net.specs.declared.node.NodeKind.TheVariants.{Input, Storage}
use Rattle.ca_net.specs.State.{value_at}
use Rattle.ca_planes.specs.declared.block.Block.{Block}
use Rattle.ca_planes.specs.declared.trits.Trits.{Trits}
use Rattle.ca_planes.specs.Plane.{has_lane}
use Rattle.ca_planes.specs.Trits.{HasNodes, state_in, trit_for, trit_in, value_in}
use Rattle.ca_planes.proofs.BitLemmas.{in_all}
use Rattle.ca_planes.proofs.ValueLemmas.{length-values_in}
use Rattle.ca_cell.specs.Row.{digit_value}
use Rattle.ca_flat.specs.Chip.{Chip, IsChip, cell_at, inputs_at, outputs_at, net_of, output_net, count_of}
use Rattle.ca_flips.specs.Static.{EndsByLast}
use Rattle.ca_flips.specs.Flips.{vector_at}
use Rattle.ca_flips.proofs.VectorLemmas.{values_same}
use Rattle.ca_static.specs.LastTable.{IsLastTable, last_at}
use Rattle.ca_view.specs.Linked.{IsPinned, IsPlaced}
use Rattle.ca_every_vector.specs.code.Lanes.{AreApart, AreAscending, AreEnds, AreEndsOut, AreLanesWithin, AreVectorMasks, AreWrittenOut, InEach, IsCovered}
use Rattle.ca_every_vector.specs.code.Lanes.{number_in, values_of}
use Rattle.ca_every_vector.specs.code.Region.{AreFewInputs, HaveDigits, IsGivenOrUnknown, IsInputNet, IsPartNet, input_at}
use Rattle.ca_every_vector.specs.code.Spread.{IsGiven}
use Rattle.ca_every_vector.proofs.GivenLemmas.{given_by}
use Rattle.ca_every_vector.proofs.RegionLemmas.{within_put}
use Rattle.ca_every_vector.proofs.TriedLemmas.{number_same}

-- a low bit of a lane's number is one of the lane
pub low_digit : (block lane after : ℕ) → after < 6 → lane / 2 ^ after % 2 ≡ number_in block lane / 2 ^ after % 2
low_digit block lane after less =
    let e : block * 2 ^ 6 + lane ≡ 64 * block + lane = omega arith in
    sym (bit_at_cat_low block 6 lane after less) ∙ ap (λ n. bit_at n after) e

-- a high one is one of the block
pub high_digit : (block lane after : ℕ) → lane < 64 → 6 ≤ after → block / 2 ^ (after - 6) % 2 ≡ number_in block lane / 2 ^ after % 2
high_digit block lane after low high =
    let e : block * 2 ^ 6 + lane ≡ 64 * block + lane = omega arith in
    sym (bit_at_cat_high block 6 lane after low high) ∙ ap (λ n. bit_at n after) e

digit_cases : (d : ℕ) → d < 2 → trit_for (true && not (d == 1)) (d == 1) ≡ digit_value d
digit_cases zero low = refl
digit_cases (suc zero) low = refl
digit_cases (suc (suc d)) low = absurd (not-suc-le-zero (le_of_suc-le-suc (le_of_suc-le-suc low)))

-- planes of a bit have its digit
pub digit_planes : (number after off on lane : ℕ) → lane < 64 → has_lane off lane ≡ (has_lane (2 ^ 64 - 1) lane && not (has_lane on lane))
    → has_lane on lane ≡ (number / 2 ^ after % 2 == 1) → value_in off on lane ≡ digit_value (number / 2 ^ after % 2)
digit_planes number after off on lane low off_is on_is =
    ap (λ z. trit_for z (has_lane on lane)) (off_is ∙ ap (λ a. a && not (has_lane on lane)) (in_all lane low))
    ∙ ap (λ o. trit_for (true && not o) o) on_is ∙ digit_cases (number / 2 ^ after % 2) (bit_at-lt number after)

-- a net of the region is given a value in each lane
pub within_put_lanes : (chip : Chip) (inputs parts : List ℕ) (old new : Block) (net : ℕ) (value : Trits) → AreLanesWithin chip inputs parts old
    → IsInputNet chip inputs net ⊎ IsPartNet chip parts net → ((lane : ℕ) → state_in new lane ≡ slice_set (state_in old lane) net (trit_in value lane))
    → AreLanesWithin chip inputs parts new
within_put_lanes chip inputs parts old new net value within is put lane low =
    within_put chip inputs parts (state_in old lane) (state_in new lane) net (trit_in value lane) (within lane low) is (put lane)

not_false : (all b : Bool) → all ≡ true → (all && not b) ≡ false → b ≡ true
not_false true true is none = refl
not_false true false is none = cc
not_false false b is none = cc

-- what no lane lacks has each
pub covered_lane : (lane : ℕ) (covered : Bool) → lane < 64 → (has_lane (2 ^ 64 - 1) lane && not covered) ≡ false → covered ≡ true
covered_lane lane covered low none = not_false (has_lane (2 ^ 64 - 1) lane) covered (in_all lane low) none

-- no lane has two vectors
pub masks_apart : (chip : Chip) (w : ℕ) (values : Block) (masks : List ℕ) (count : ℕ) → count ≡ 2 ^ inputs_at chip w → AreVectorMasks chip w values masks → AreApart masks count
masks_apart chip w values masks count is vectors lane k j low k_low j_low has_k has_j =
    let one = vectors k lane (omega (arith, is)) low has_k in
    let other = vectors j lane (omega (arith, is)) low has_j in
    number_same (inputs_at chip w) k j one.within other.within (λ place less. ap (λ v. value_at v place) (one.vector_is ∙ sym other.vector_is))

-- the output nets of an instance w are written
module _ (chip : Chip) (rank : ℕ → ℕ) (is : IsChip chip rank) (w : ℕ) (w_known : w < count_of chip) where
  outputs_apart : (i j : ℕ) → i < outputs_at chip w → j < outputs_at chip w → output_net chip w i ≡ output_net chip w j → i ≡ j
  outputs_apart i j low less same = (is.one_driver (output_net chip w j) (record { instance = w; output = i; known = w_known; within = low; on = same })
      (record { instance = w; output = j; known = w_known; within = less; on = refl })).1

  -- one more of them
  module _ (old new : Block) (output net : ℕ) (value : Trits) (less : output < outputs_at chip w) (on : net ≡ output_net chip w output)
      (put : (lane : ℕ) → state_in new lane ≡ slice_set (state_in old lane) net (trit_in value lane)) where
    elsewhere : (lane other : ℕ) → other ≢ net → values_of new lane other ≡ values_of old lane other
    elsewhere lane other apart = ap (λ list. value_at list other) (put lane) ∙ get_or-set_other (state_in old lane) net other (trit_in value lane) X apart

    here : HasNodes (length chip.nets) old → net < length chip.nets → (lane : ℕ) → values_of new lane (output_net chip w output) ≡ trit_in value lane
    here nets within lane = ap (values_of new lane) (sym on) ∙ ap (λ list. value_at list net) (put lane)
        ∙ get_or-set_same (state_in old lane) net (trit_in value lane) X
        (let zeros = nets.zeros in let ones = nets.ones in let long = length-values_in old.zeros.items old.ones.items lane (ones ∙ sym zeros) in omega arith)

    pub ends_more : (table : List (List Wave)) (masks : List ℕ) (count : ℕ) → HasNodes (length chip.nets) old → net < length chip.nets → AreEnds table masks count output value
        → AreEndsOut chip w table masks count output old → AreEndsOut chip w table masks count (output + 1) new
    ends_more table masks count nets within ends so_far other number lane below row low has = elim (cases_eq other output) [
      | inl e ↦ subst (λ k. values_of new lane (output_net chip w k) ≡ last_at table number k) (sym e) (here nets within lane ∙ ends number lane row low has)
      | inr apart ↦ elsewhere lane (output_net chip w other) (λ e. apart (outputs_apart other output (omega (arith, below, apart, less)) less (e ∙ on)))
          ∙ so_far other number lane (omega (arith, below, apart)) row low has
    ]

    pub written_more : (first : Block) → AreWrittenOut chip w first old → AreWrittenOut chip w first new
    written_more first so_far lane low n = elim (cases_eq n net) [
      | inl e ↦ inr (record { output = output; within = less; on = sym on ∙ sym e })
      | inr apart ↦ elim (so_far lane low n) [
        | inl same ↦ inl (elsewhere lane n apart ∙ same)
        | inr out ↦ inr out
      ]
    ]

  -- all of them
  module _ (old new : Block) (written : AreWrittenOut chip w old new) where
    -- an instance at or before w reads none of them
    input_kept : (v pin lane : ℕ) → v < count_of chip → rank v ≤ rank w → pin < inputs_at chip v → lane < 64 → values_of new lane (net_of chip v pin) ≡ values_of old lane (net_of chip v pin)
    input_kept v pin lane known before within low = elim (written lane low (net_of chip v pin)) [
      | inl same ↦ same
      | inr out ↦
          let later : rank w < rank v = is.ranked v pin known within (record { instance = w; output = out.output; known = w_known; within = out.within; on = out.on }) in
          absurd (omega (arith, later, before))
    ]

    vector_kept : (v lane : ℕ) → v < count_of chip → rank v ≤ rank w → lane < 64 → vector_at chip v (values_of new lane) ≡ vector_at chip v (values_of old lane)
    vector_kept v lane known before low = values_same (λ pin. values_of new lane (net_of chip v pin)) (λ pin. values_of old lane (net_of chip v pin)) (inputs_at chip v)
        (λ pin within. input_kept v pin lane known before within low)

    output_kept : (v output lane : ℕ) → v < count_of chip → v ≢ w → output < outputs_at chip v → lane < 64 → values_of new lane (output_net chip v output) ≡ values_of old lane (output_net chip v output)
    output_kept v output lane known apart within low = elim (written lane low (output_net chip v output)) [
      | inl same ↦ same
      | inr out ↦ absurd (apart (sym (is.one_driver (output_net chip v output) (record { instance = w; output = out.output; known = w_known; within = out.within; on = out.on })
          (record { instance = v; output = output; known = known; within = within; on = refl })).0))
    ]

    -- so it stays given
    pub given_kept : (v lane : ℕ) → v < count_of chip → rank v ≤ rank w → v ≢ w → lane < 64 → IsGiven chip v (values_of old lane) → IsGiven chip v (values_of new lane)
    given_kept v lane known before apart low given = record {
      known = λ pin within e. given.known pin within (sym (input_kept v pin lane known before within low) ∙ e);
      evaluated = λ output within. subst (λ x. EndsByLast (cell_at chip v) (vector_at chip v (values_of new lane)) output x) (sym (output_kept v output lane known apart within low))
          (subst (λ vector. EndsByLast (cell_at chip v) vector output (values_of old lane (output_net chip v output))) (sym (vector_kept v lane known before low)) (given.evaluated output within));
    }

    -- and w comes to be given
    pub given_out : (table : List (List Wave)) (masks : List ℕ) (count lane : ℕ) → IsLastTable (cell_at chip w) table → count ≡ 2 ^ inputs_at chip w → AreVectorMasks chip w old masks
        → AreEndsOut chip w table masks count (outputs_at chip w) new → lane < 64 → IsCovered masks count lane → IsGiven chip w (values_of new lane)
    given_out table masks count lane of count_is vectors ends low covered =
        let is_number = vectors covered.0 lane (omega (arith, covered.1, count_is)) low covered.2 in
        given_by chip w (values_of new lane) covered.0
        (record { within = is_number.within; vector_is = is_number.vector_is ∙ sym (vector_kept w lane w_known (omega arith) low) })
        table of (λ output within. ends output covered.0 lane within covered.1 low covered.2)

    -- the nets of a region
    pub within_written : (inputs parts : List ℕ) → Contains parts w → AreLanesWithin chip inputs parts old → AreLanesWithin chip inputs parts new
    within_written inputs parts has within lane low net = elim (written lane low net) [
      | inr out ↦ inr (inr (record { part = w; output = out.output; has = has; known = w_known; within = out.within; on = out.on }))
      | inl same ↦ elim (within lane low net) [
        | inl fixed ↦ inl (same ∙ fixed)
        | inr of ↦ inr of
      ]
    ]

    -- those of the chip inputs stay
    pub digits_written : (inputs : List ℕ) (block : ℕ) → IsPinned chip → AreFewInputs chip inputs
        → InEach (λ lane. HaveDigits chip inputs (number_in block lane) (state_in old lane)) → InEach (λ lane. HaveDigits chip inputs (number_in block lane) (state_in new lane))
    digits_written inputs block pinned few digits lane low j less = elim (written lane low (slice_index chip.inputs (input_at inputs j))) [
      | inl same ↦ same ∙ digits lane low j less
      | inr out ↦
          let kind = pinned.kind (input_at inputs j) (few.known j less) in
          let storage = is.drives (slice_index chip.inputs (input_at inputs j)) (record { instance = w; output = out.output; known = w_known; within = out.within; on = out.on }) in
          let clash : Input ≡ Storage OUTPUT_NET = sym kind ∙ storage in cc
    ]

    -- the parts up to w are given
    pub parts_more : (parts : List ℕ) (place : ℕ) → slice_get parts place ≡ Some w → AreAscending rank parts → All (IsPlaced chip rank) parts
        → InEach (λ lane. IsGiven chip w (values_of new lane)) → InEach (λ lane. (k : ℕ) → k < place → IsGiven chip (get_or parts k 0) (values_of old lane))
        → InEach (λ lane. (k : ℕ) → k < place + 1 → IsGiven chip (get_or parts k 0) (values_of new lane))
    parts_more parts place at ascending placed given so_far lane low k less =
        let w_is : get_or parts place 0 ≡ w = get_or_from_slice_get parts place w 0 at in
        let room = slice_get_within parts place w at in
        elim (cases_eq (get_or parts k 0) w) [
          | inl e ↦ subst (λ v. IsGiven chip v (values_of new lane)) (sym e) (given lane low)
          | inr apart ↦ elim (cases_eq k place) [
            | inl here ↦ absurd (apart (ap (λ n. get_or parts n 0) here ∙ w_is))
            | inr other ↦
                let before : k < place = omega (arith, less, other) in
                let is_placed : IsPlaced chip rank (get_or parts k 0) = placed k 0 (omega (arith, before, room)) in
                given_kept (get_or parts k 0) lane is_placed.known (subst (λ v. rank (get_or parts k 0) ≤ rank v) w_is (ascending k place before room)) apart low (so_far lane low k before)
          ]
        ]

-- all parts are given
pub parts_all : (chip : Chip) (values : Block) (parts : List ℕ) (place lane : ℕ) → length parts ≤ place → ((k : ℕ) → k < place → IsGiven chip (get_or parts k 0) (values_of values lane))
    → All (IsGivenOrUnknown chip (state_in values lane)) parts
parts_all chip values parts place lane past given k d less =
    subst (IsGivenOrUnknown chip (state_in values lane)) (get_or_default parts k 0 d less) (inl (given k (omega (arith, less, past))))
