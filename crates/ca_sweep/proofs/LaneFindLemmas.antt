-- In which lanes flips are seen.
use Rattle.std.proofs.Common.{◌≡◌, ◌≢◌, ℕ, zero, suc, ◌+◌, ◌*◌, ◌<◌, ◌≤◌, ◌⊎◌, ◌&&◌, ◌||◌, Bool, true, false, List, length, refl, sym, ◌∙◌, ap, subst, arith, inl, inr, min}
use Rattle.std.specs.Prelude.{slice_index, slice_index_or, not}
use Rattle.ca_net.specs.declared.trit.Trit.{Trit}
use Rattle.ca_net.specs.declared.trit.Trit.TheVariants.{X}
use Rattle.ca_net.specs.State.{value_at}
use Rattle.ca_planes.specs.Plane.{has_lane, lane_at}
use Rattle.ca_flat.specs.Codes.{bit_trit}
use Rattle.std.proofs.Common.{slice_set}
use Rattle.std.proofs.lemmas.Bool.{cases_eq, cases_lt}
use Rattle.std.proofs.lemmas.List.{get_or-set_same, get_or-set_other, length-set}
use Rattle.ca_flat.specs.Chip.{Chip, cell_at, count_of, inputs_at, net_of, output_net, outputs_at}
use Rattle.ca_flips.specs.Static.{EndsByLast}
use Rattle.ca_flips.specs.Flips.{IsEvaluated, IsOpposite, KeepsGood, vector_at}
use Rattle.ca_flips.proofs.VectorLemmas.{vector_same}
use Rattle.ca_view.specs.Linked.{IsLinked, IsPlaced}
use Rattle.ca_sweep.specs.declared.seen.Flips.{Flips}
use Rattle.ca_sweep.specs.Seen.{is_flipped, flipped_if}
use Rattle.ca_sweep.specs.code.Faulty.{code_of}
use Rattle.ca_sweep.specs.code.Pinned.{AreKept, ArePinnedMarked, ArePinsMarked}
use Rattle.ca_sweep.specs.code.Lanes.{AreSeenFrom, AreThreePut, IsUnseen, goods_in}
use Rattle.ca_sweep.specs.code.Segments.{IsCutAt, IsSweptFrom}
use Rattle.ca_sweep.specs.Seen.{AreSameAt, AreUnseen, IsClear, trits_in}
use Rattle.ca_sweep.specs.code.Kept.{AreAllStatic}
use Rattle.ca_sweep.proofs.ClearLemmas.{all_clear}
use Rattle.ca_sweep.proofs.FaultyLemmas.{code_small}
use Rattle.ca_sweep.proofs.LaneLemmas.{trit_here}
use Rattle.ca_sweep.proofs.SegmentLemmas.{joined, not_itself, nowhere_seen}

unflipped : (flips : Flips) (output : ℕ) → flips.first ≡ false → flips.second ≡ false → is_flipped flips output ≡ false
unflipped flips zero first second = first
unflipped flips (suc output) first second = second

-- where no pin is flipped, nothing is seen
pub none_unseen : (chip : Chip) (place_of : ℕ → ℕ) (goods : ℕ → Trit) (u : ℕ) (flips : Flips) → flips.first ≡ false → flips.second ≡ false
    → IsUnseen chip place_of goods u flips
none_unseen chip place_of goods u flips first second = record {
  values = goods;
  swept = record {
    inputs = λ net less is. refl;
    given = λ output within. sym (ap (λ b. flipped_if b (goods (output_net chip u output))) (unflipped flips output first second));
    others = λ w known apart. inl (record { pins = λ pin within. refl; outputs = λ output within. refl });
  };
  changed = λ net. inl refl;
  first = record {
    within = omega arith;
    here = λ less. absurd (omega arith);
    before = λ place less opposite. not_itself (goods (slice_index chip.outputs place)) (goods (slice_index chip.outputs place)) opposite refl;
  };
}

-- what the planes of an instance say of flips
pub unseen_there : (chip : Chip) (place_of : ℕ → ℕ) (goods seen : List ℕ) (from w : ℕ) (flips : Flips) (lane : ℕ) → AreSeenFrom chip place_of goods from seen
    → IsPlaced chip place_of w → from ≤ place_of w → lane < 64
    → ((flips.first ≡ false) × (flips.second ≡ false)) ⊎ (lane_at seen (4 * w + code_of flips.first flips.second) lane ≡ false)
    → IsUnseen chip place_of (goods_in goods lane) w flips
unseen_there chip place_of goods seen from w flips lane are placed low within cases = elim cases [
  | inl none ↦ none_unseen chip place_of (goods_in goods lane) w flips none.0 none.1
  | inr unset ↦ are.each w flips lane placed low within unset
]

-- the flips at a cut are seen no more than those there
pub cut_unseen : (chip : Chip) (place_of number_of : ℕ → ℕ) → IsLinked chip place_of number_of → (goods : ℕ → Trit) (u w : ℕ) (flips onward : Flips) (known : IsPlaced chip place_of u)
    → IsCutAt chip place_of goods u flips (length chip.outputs) w onward → IsUnseen chip place_of goods w onward → IsUnseen chip place_of goods u flips
cut_unseen chip place_of number_of linked goods u w flips onward placed cut rest =
    subst (IsSweptFrom chip place_of goods u flips) (let e : min (length chip.outputs) (length chip.outputs) ≡ length chip.outputs = omega arith in e)
    (joined chip place_of number_of linked goods u w flips onward (length chip.outputs) (length chip.outputs) placed.known cut rest)

-- the planes that say it of each choice of pins
pub seen_cases : (first second : Bool) (seen : List ℕ) (w lane : ℕ) → ((first && not second) && lane_at seen (4 * w + 1) lane) ≡ false
    → ((second && not first) && lane_at seen (4 * w + 2) lane) ≡ false → ((first && second) && lane_at seen (4 * w + 3) lane) ≡ false
    → ((first ≡ false) × (second ≡ false)) ⊎ (lane_at seen (4 * w + code_of first second) lane ≡ false)
seen_cases false false seen w lane one other both = inl (refl, refl)
seen_cases true false seen w lane one other both = inr one
seen_cases false true seen w lane one other both = inr other
seen_cases true true seen w lane one other both = inr both

pub neither : (a b : Bool) → (a || b) ≡ false → (a ≡ false) × (b ≡ false)
neither true b is = let e : true ≡ false = is in absurd cc
neither false b is = (refl, is)

-- where there is one output pin, the second flip says nothing
pub single_unseen : (chip : Chip) (place_of : ℕ → ℕ) (goods : ℕ → Trit) (u : ℕ) (flips other : Flips) → outputs_at chip u ≤ 1 → flips.first ≡ other.first
    → IsUnseen chip place_of goods u flips → IsUnseen chip place_of goods u other
single_unseen chip place_of goods u flips other few same is = record {
  values = is.values;
  swept = record {
    inputs = is.swept.inputs;
    given = given;
    others = is.swept.others;
  };
  changed = is.changed;
  first = is.first;
}
  where
    given : (output : ℕ) → output < outputs_at chip u → is.values (output_net chip u output) ≡ flipped_if (is_flipped other output) (goods (output_net chip u output))
    given zero within = is.swept.given zero within ∙ ap (λ b. flipped_if b (goods (output_net chip u zero))) same
    given (suc output) within = absurd (omega arith)

pub flips_same : (flips : Flips) (first second : Bool) → flips.first ≡ first → flips.second ≡ second → flips ≡ record { first = first; second = second }
flips_same flips first second one other =
    subst (λ (b : Bool). flips ≡ record { first = b; second = second }) one (subst (λ (b : Bool). flips ≡ record { first = flips.first; second = b }) other refl)

three_put : (u first second two : ℕ) (old a b new : List ℕ) → 4 * u + 4 ≤ length old → a ≡ slice_set old (4 * u + 1) first → b ≡ slice_set a (4 * u + 2) second
    → new ≡ slice_set b (4 * u + 3) two → AreThreePut u first second two old new
three_put u first second two old a b new room a_is b_is new_is =
    let a_count = ap length a_is ∙ length-set old (4 * u + 1) first in
    let b_count = ap length b_is ∙ length-set a (4 * u + 2) second in
    record {
      room = ap length new_is ∙ length-set b (4 * u + 3) two ∙ b_count ∙ a_count;
      one = ap (λ l. slice_index l (4 * u + 1)) new_is ∙ get_or-set_other b (4 * u + 3) (4 * u + 1) two 0 (λ e. omega arith)
          ∙ ap (λ l. slice_index l (4 * u + 1)) b_is ∙ get_or-set_other a (4 * u + 2) (4 * u + 1) second 0 (λ e. omega arith)
          ∙ ap (λ l. slice_index l (4 * u + 1)) a_is ∙ get_or-set_same old (4 * u + 1) first 0 (omega arith);
      other = ap (λ l. slice_index l (4 * u + 2)) new_is ∙ get_or-set_other b (4 * u + 3) (4 * u + 2) two 0 (λ e. omega arith)
          ∙ ap (λ l. slice_index l (4 * u + 2)) b_is ∙ get_or-set_same a (4 * u + 2) second 0 (omega (arith, a_count));
      both = ap (λ l. slice_index l (4 * u + 3)) new_is ∙ get_or-set_same b (4 * u + 3) two 0 (omega (arith, a_count, b_count));
      rest = λ place one other both. ap (λ l. slice_index l place) new_is ∙ get_or-set_other b (4 * u + 3) place two 0 both
          ∙ ap (λ l. slice_index l place) b_is ∙ get_or-set_other a (4 * u + 2) place second 0 other
          ∙ ap (λ l. slice_index l place) a_is ∙ get_or-set_other old (4 * u + 1) place first 0 one;
    }

pub three_are_put : (u first second two : ℕ) (old : List ℕ) → 4 * u + 4 ≤ length old
    → AreThreePut u first second two old (slice_set (slice_set (slice_set old (4 * u + 1) first) (4 * u + 2) second) (4 * u + 3) two)
three_are_put u first second two old room = three_put u first second two old _ _ _ room refl refl refl

-- one more instance
pub seen_more : (chip : Chip) (place_of number_of : ℕ → ℕ) → IsLinked chip place_of number_of → (goods old new : List ℕ) (u first second two : ℕ)
    → IsPlaced chip place_of u → AreSeenFrom chip place_of goods (place_of u + 1) old → AreThreePut u first second two old new
    → ((lane : ℕ) → lane < 64 → has_lane first lane ≡ false → IsUnseen chip place_of (goods_in goods lane) u (record { first = true; second = false }))
    → ((lane : ℕ) → lane < 64 → has_lane second lane ≡ false → IsUnseen chip place_of (goods_in goods lane) u (record { first = false; second = true }))
    → ((lane : ℕ) → lane < 64 → has_lane two lane ≡ false → IsUnseen chip place_of (goods_in goods lane) u (record { first = true; second = true }))
    → AreSeenFrom chip place_of goods (place_of u) new
seen_more chip place_of number_of linked goods old new u first second two placed so_far put one other both = record {
  room = put.room ∙ so_far.room;
  each = λ w flips lane w_placed low within unset. elim (cases_eq w u) [
    | inl e ↦ subst (λ x. IsUnseen chip place_of (goods_in goods lane) x flips) (sym e)
        (here flips lane within (ap (λ x. lane_at new (4 * x + code_of flips.first flips.second) lane) (sym e) ∙ unset))
    | inr apart ↦
        let small = code_small flips.first flips.second in
        let later : place_of u + 1 ≤ place_of w = elim (cases_eq (place_of w) (place_of u)) [
          | inl same ↦ absurd (apart (linked.apart w u w_placed placed same))
          | inr differ ↦ omega arith
        ] in
        so_far.each w flips lane w_placed later within (ap (λ p. has_lane p lane)
        (sym (put.rest (4 * w + code_of flips.first flips.second) (λ e. omega arith) (λ e. omega arith) (λ e. omega arith))) ∙ unset)
  ];
}
  where
    here : (flips : Flips) (lane : ℕ) → lane < 64 → lane_at new (4 * u + code_of flips.first flips.second) lane ≡ false → IsUnseen chip place_of (goods_in goods lane) u flips
    here flips lane within unset = go flips.first flips.second refl refl
      where
        go : (a b : Bool) → flips.first ≡ a → flips.second ≡ b → IsUnseen chip place_of (goods_in goods lane) u flips
        go false false a_is b_is = none_unseen chip place_of (goods_in goods lane) u flips a_is b_is
        go true false a_is b_is = subst (IsUnseen chip place_of (goods_in goods lane) u) (sym (flips_same flips true false a_is b_is))
            (one lane within (ap (λ p. has_lane p lane) (sym put.one) ∙ ap (λ c. lane_at new (4 * u + c) lane) (sym (ap (λ b. code_of b flips.second) a_is ∙ ap (code_of true) b_is)) ∙ unset))
        go false true a_is b_is = subst (IsUnseen chip place_of (goods_in goods lane) u) (sym (flips_same flips false true a_is b_is))
            (other lane within (ap (λ p. has_lane p lane) (sym put.other) ∙ ap (λ c. lane_at new (4 * u + c) lane) (sym (ap (λ b. code_of b flips.second) a_is ∙ ap (code_of false) b_is)) ∙ unset))
        go true true a_is b_is = subst (IsUnseen chip place_of (goods_in goods lane) u) (sym (flips_same flips true true a_is b_is))
            (both lane within (ap (λ p. has_lane p lane) (sym put.both) ∙ ap (λ c. lane_at new (4 * u + c) lane) (sym (ap (λ b. code_of b flips.second) a_is ∙ ap (code_of true) b_is)) ∙ unset))

-- where no instance is at the place before, what is known from a place on is known from that one on
pub seen_skips : (chip : Chip) (place_of : ℕ → ℕ) (goods seen : List ℕ) (from : ℕ) → AreSeenFrom chip place_of goods (from + 1) seen
    → ((u : ℕ) → IsPlaced chip place_of u → place_of u ≡ from → ⊥) → AreSeenFrom chip place_of goods from seen
seen_skips chip place_of goods seen from so_far none = record {
  room = so_far.room;
  each = λ u flips lane placed low within unset. elim (cases_eq (place_of u) from) [
    | inl e ↦ absurd (none u placed e)
    | inr apart ↦ so_far.each u flips lane placed (omega arith) within unset
  ];
}

-- past all places nothing is to be known
pub seen_begins : (chip : Chip) (place_of number_of : ℕ → ℕ) → IsLinked chip place_of number_of → (goods seen : List ℕ) (from : ℕ) → length seen ≡ 4 * count_of chip
    → count_of chip < from → AreSeenFrom chip place_of goods from seen
seen_begins chip place_of number_of linked goods seen from room past = record {
  room = room;
  each = λ u flips lane placed low within unset. let known = placed.known in let bound = linked.within u placed.known in absurd (omega arith);
}

-- where no plane of an instance has the lane, no flip of it is seen there
pub unseen_all : (chip : Chip) (place_of : ℕ → ℕ) (goods seen : List ℕ) (u lane : ℕ) → AreSeenFrom chip place_of goods 0 seen → IsPlaced chip place_of u → lane < 64
    → lane_at seen (4 * u + 1) lane ≡ false → lane_at seen (4 * u + 2) lane ≡ false → lane_at seen (4 * u + 3) lane ≡ false
    → (flips : Flips) → IsUnseen chip place_of (goods_in goods lane) u flips
unseen_all chip place_of goods seen u lane are placed within one other both flips = go flips.first flips.second refl refl
  where
    go : (a b : Bool) → flips.first ≡ a → flips.second ≡ b → IsUnseen chip place_of (goods_in goods lane) u flips
    go false false a_is b_is = none_unseen chip place_of (goods_in goods lane) u flips a_is b_is
    go true false a_is b_is = are.each u flips lane placed (omega arith) within (ap (λ c. lane_at seen (4 * u + c) lane) (ap (λ b. code_of b flips.second) a_is ∙ ap (code_of true) b_is) ∙ one)
    go false true a_is b_is = are.each u flips lane placed (omega arith) within (ap (λ c. lane_at seen (4 * u + c) lane) (ap (λ b. code_of b flips.second) a_is ∙ ap (code_of false) b_is) ∙ other)
    go true true a_is b_is = are.each u flips lane placed (omega arith) within (ap (λ c. lane_at seen (4 * u + c) lane) (ap (λ b. code_of b flips.second) a_is ∙ ap (code_of true) b_is) ∙ both)

bit_definite : (bit : Bool) → bit_trit bit ≢ X
bit_definite true e = cc
bit_definite false e = cc

-- one value at marked nets, the other elsewhere
abbrev picked : Bool → Trit → Trit → Trit
picked true one other = one
picked false one other = other

module _ (chip : Chip) (place_of number_of : ℕ → ℕ) (linked : IsLinked chip place_of number_of) (marks : List Bool) (marked : ArePinnedMarked chip place_of marks)
    (mine goods : ℕ → Trit) (same : AreSameAt marks mine goods) (u : ℕ) (placed : IsPlaced chip place_of u) where
  abbrev mark_of : ℕ → Bool
  mark_of net = slice_index_or marks net false

  -- values that are good at nets without a pin
  module _ (flips : Flips) (is : IsUnseen chip place_of mine u flips) where
    abbrev all : ℕ → Trit
    all net = picked (mark_of net) (is.values net) (goods net)

    all_on : (net : ℕ) → mark_of net ≡ true → all net ≡ is.values net
    all_on net on = ap (λ b. picked b (is.values net) (goods net)) on

    all_off : (net : ℕ) → mark_of net ≡ false → all net ≡ goods net
    all_off net off = ap (λ b. picked b (is.values net) (goods net)) off

    -- where the values found are those of the lane, they are good
    all_good : (net : ℕ) → is.values net ≡ mine net → all net ≡ goods net
    all_good net e = go (mark_of net) refl
      where
        go : (b : Bool) → mark_of net ≡ b → all net ≡ goods net
        go true on = all_on net on ∙ e ∙ same net on
        go false off = all_off net off

    pin_on : (w pin : ℕ) → IsPlaced chip place_of w → pin < inputs_at chip w → all (net_of chip w pin) ≡ is.values (net_of chip w pin)
    pin_on w pin w_placed within = all_on (net_of chip w pin) (marked w pin w_placed (omega arith))

    out_on : (w output : ℕ) → IsPlaced chip place_of w → output < outputs_at chip w → all (output_net chip w output) ≡ is.values (output_net chip w output)
    out_on w output w_placed within = all_on (output_net chip w output) (marked w (inputs_at chip w + output) w_placed (omega arith))

    all_others : (w : ℕ) → w < count_of chip → (w ≡ u → ⊥) → KeepsGood chip w goods all ⊎ IsEvaluated chip w all
    all_others w known apart = elim (cases_lt 0 (place_of w)) [
      | inl some ↦
          let w_placed : IsPlaced chip place_of w = record { known = known; placed = some } in
          elim (is.swept.others w known apart) [
            | inl keeps ↦ inl (record {
              pins = λ pin within. all_good (net_of chip w pin) (keeps.pins pin within);
              outputs = λ output within. all_good (output_net chip w output) (keeps.outputs output within);
            })
            | inr evaluated ↦ inr (λ output within.
                subst (λ v. EndsByLast (cell_at chip w) v output (all (output_net chip w output)))
                (vector_same chip w is.values all (λ pin less. sym (pin_on w pin w_placed less)))
                (subst (EndsByLast (cell_at chip w) (vector_at chip w is.values) output) (sym (out_on w output w_placed within)) (evaluated output within)))
          ]
      | inr none ↦
          let zero_place : place_of w ≡ 0 = omega arith in
          let bare = linked.bare w known zero_place in
          inl (record {
            pins = λ pin within. let no_pin = bare.no_pin in absurd (omega arith);
            outputs = λ output within. all_good (output_net chip w output) (elim (is.changed (output_net chip w output)) [
              | inl good ↦ good
              | inr behind ↦
                  let out = behind.out in
                  let own : behind.instance ≡ w = (linked.is_chip.one_driver (output_net chip w output)
                  (record { instance = behind.instance; output = out.output; known = behind.known; within = out.within; on = out.on })
                  (record { instance = w; output = output; known = known; within = within; on = refl })).0 in
                  elim behind.onward [
                    | inl self ↦ absurd (apart (sym own ∙ self))
                    | inr onward ↦ let e = ap place_of own in absurd (omega arith)
                  ]
            ]);
          })
    ]

    pub unseen_for : IsUnseen chip place_of goods u flips
    unseen_for = record {
      values = all;
      swept = record {
        inputs = λ net less kind. all_good net (is.swept.inputs net less kind);
        given = λ output within.
            let on = marked u (inputs_at chip u + output) placed (omega arith) in
            out_on u output placed within ∙ is.swept.given output within ∙ ap (flipped_if (is_flipped flips output)) (same (output_net chip u output) on);
        others = all_others;
      };
      changed = λ net. elim (is.changed net) [ inl good ↦ inl (all_good net good) | inr behind ↦ inr behind ];
      first = record {
        within = omega arith;
        here = λ less. absurd (omega arith);
        before = λ place less opposite. go place less opposite (mark_of (slice_index chip.outputs place)) refl;
      };
    }
      where
        go : (place : ℕ) → place < length chip.outputs → IsOpposite (goods (slice_index chip.outputs place)) (all (slice_index chip.outputs place))
            → (b : Bool) → mark_of (slice_index chip.outputs place) ≡ b → ⊥
        go place less opposite true on =
            let net = slice_index chip.outputs place in
            is.first.before place less (subst (λ v. IsOpposite (mine (slice_index chip.outputs place)) v) (all_on net on)
            (subst (λ g. IsOpposite g (all (slice_index chip.outputs place))) (sym (same net on)) opposite))
        go place less opposite false off = not_itself (goods (slice_index chip.outputs place)) (all (slice_index chip.outputs place)) opposite (all_off (slice_index chip.outputs place) off)

  -- the instance is clear where the values of the lane are definite
  pub clear_for : AreAllStatic chip place_of → ((net : ℕ) → net < length chip.nets → mine net ≢ X) → IsClear chip goods u
  clear_for static definite = all_clear chip place_of number_of goods linked static
      (λ w at pin within x. definite (net_of chip w pin) (linked.is_chip.on_nets w pin at.known within)
      (same (net_of chip w pin) (marked w pin at within) ∙ x)) u placed

-- so last values alone say that none is seen
pub laned_unseen : (chip : Chip) (place_of number_of : ℕ → ℕ) → IsLinked chip place_of number_of → AreAllStatic chip place_of → (marks : List Bool) (ones seen : List ℕ) (u lane : ℕ)
    → ArePinnedMarked chip place_of marks → length ones ≡ length chip.nets → AreSeenFrom chip place_of ones 0 seen → IsPlaced chip place_of u → lane < 64
    → lane_at seen (4 * u + 1) lane ≡ false → lane_at seen (4 * u + 2) lane ≡ false → lane_at seen (4 * u + 3) lane ≡ false
    → (goods : ℕ → Trit) → AreSameAt marks (value_at (trits_in ones lane)) goods → AreUnseen chip goods u
laned_unseen chip place_of number_of linked static marks ones seen u lane marked nets are placed within one other both goods same flips =
    nowhere_seen chip place_of goods u flips (length chip.outputs)
    (clear_for chip place_of number_of linked marks marked (value_at (trits_in ones lane)) goods same u placed static
    (λ net less x. bit_definite (has_lane (slice_index ones net) lane) (sym (trit_here ones lane net (omega arith)) ∙ x)))
    (unseen_for chip place_of number_of linked marks marked (value_at (trits_in ones lane)) goods same u placed flips
    (unseen_all chip place_of ones seen u lane are placed within one other both flips)) (omega arith)

-- one more mark
pub mark_kept : (marks : List Bool) (net : ℕ) → net < length marks → AreKept marks (slice_set marks net true)
mark_kept marks net within other was = elim (cases_eq other net) [
  | inl e ↦ ap (λ n. slice_index_or (slice_set marks net true) n false) e ∙ get_or-set_same marks net true false within
  | inr apart ↦ get_or-set_other marks net other true false apart ∙ was
]

pub pins_more : (chip : Chip) (u count net : ℕ) (old new : List Bool) → net ≡ net_of chip u count → net < length old → new ≡ slice_set old net true
    → ArePinsMarked chip u count old → ArePinsMarked chip u (count + 1) new
pins_more chip u count net old new net_is within is so_far pin below = elim (cases_eq pin count) [
  | inl e ↦ ap (λ list. slice_index_or list (net_of chip u pin) false) is ∙ ap (λ n. slice_index_or (slice_set old net true) n false) (ap (net_of chip u) e ∙ sym net_is)
      ∙ get_or-set_same old net true false within
  | inr apart ↦ ap (λ list. slice_index_or list (net_of chip u pin) false) is ∙ mark_kept old net within (net_of chip u pin) (so_far pin (omega arith))
]
