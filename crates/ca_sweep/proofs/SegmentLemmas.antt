-- Sweeps in parts: what is found after a cut, put on what is found before it.
use Rattle.std.proofs.Common.{◌≡◌, ◌≢◌, ℕ, ◌+◌, ◌*◌, ◌<◌, ◌≤◌, ◌⊎◌, List, length, Option, None, Some, inl, inr, refl, sym, ◌∙◌, ap, subst, arith, min}
use Rattle.std.proofs.Common.{get_or, slice_set}
use Rattle.std.specs.Prelude.{slice_index, IfSome}
use Rattle.std.proofs.lemmas.Bool.{cases_eq, cases_lt}
use Rattle.std.proofs.lemmas.List.{get_or-set_same, get_or-set_other, length-set}
use Rattle.ca_net.specs.declared.trit.Trit.{Trit}
use Rattle.ca_net.specs.declared.trit.Trit.TheVariants.{Zero, One, X}
use Rattle.ca_net.specs.declared.node.NodeKind.TheVariants.{Input}
use Rattle.ca_net.specs.State.{value_at}
use Rattle.ca_flat.specs.Chip.{Chip, cell_at, inputs_at, outputs_at, net_of, output_net, count_of, net_kind}
use Rattle.ca_flips.specs.Static.{EndsByLast}
use Rattle.ca_flips.specs.Flips.{IsAfter, vector_at, KeepsGood, IsEvaluated, AreSwept, IsOpposite}
use Rattle.ca_flips.proofs.ReachLemmas.{reached_late}
use Rattle.ca_flips.proofs.VectorLemmas.{vector_same}
use Rattle.ca_view.specs.Linked.{IsLinked, IsPlaced}
use Rattle.ca_sweep.specs.declared.seen.Flips.{Flips}
use Rattle.ca_sweep.specs.declared.segments.Aged.{Aged}
use Rattle.ca_sweep.specs.declared.segments.Segment.{Segment}
use Rattle.ca_sweep.specs.declared.segments.Segments.{Segments}
use Rattle.ca_sweep.specs.declared.values.Values.{Values}
use Rattle.ca_sweep.specs.Seen.{flipped_outputs, IsOppositeAt, IsClear, IsSeenFrom}
use Rattle.ca_sweep.specs.code.Changes.{IsOutputBelow, IsEvaluatedAt, IsSweptTo}
use Rattle.ca_sweep.specs.code.Faulty.{code_of}
use Rattle.ca_places.specs.PlaceSet.{IsNext}
use Rattle.ca_sweep.specs.code.Segments.{IsBehind, IsFirstNumber, IsSweptFrom, IsSweptUntil, IsCutAt, IsSegment, AreAges, IsOfAge, AreSegments}
use Rattle.ca_sweep.proofs.FaultyLemmas.{same_code, code_small}
use Rattle.ca_sweep.proofs.SweepLemmas.{not_input, later, not_other, swept_passes, swept_ends}

-- the later value where it isn't the good one, else the one before
abbrev later_value : Trit → Trit → Trit → Trit
later_value Zero Zero before = before
later_value Zero One before = Zero
later_value Zero X before = Zero
later_value One Zero before = One
later_value One One before = before
later_value One X before = One
later_value X Zero before = X
later_value X One before = X
later_value X X before = before

later_good : (late good before : Trit) → late ≡ good → later_value late good before ≡ before
later_good Zero Zero before e = refl
later_good One One before e = refl
later_good X X before e = refl
later_good Zero One before e = cc
later_good Zero X before e = cc
later_good One Zero before e = cc
later_good One X before e = cc
later_good X Zero before e = cc
later_good X One before e = cc

later_same : (late good before : Trit) → before ≡ late → later_value late good before ≡ late
later_same Zero Zero before e = e
later_same Zero One before e = refl
later_same Zero X before e = refl
later_same One Zero before e = refl
later_same One One before e = e
later_same One X before e = refl
later_same X Zero before e = refl
later_same X One before e = refl
later_same X X before e = e

-- where the one before is the good one, it is the later one
later_late : (late good before : Trit) → before ≡ good → later_value late good before ≡ late
later_late Zero Zero before e = e
later_late Zero One before e = refl
later_late Zero X before e = refl
later_late One Zero before e = refl
later_late One One before e = e
later_late One X before e = refl
later_late X Zero before e = refl
later_late X One before e = refl
later_late X X before e = e

trit_cases : (a b : Trit) → (a ≡ b) ⊎ (a ≢ b)
trit_cases Zero Zero = inl refl
trit_cases One One = inl refl
trit_cases X X = inl refl
trit_cases Zero One = inr (λ e. cc)
trit_cases Zero X = inr (λ e. cc)
trit_cases One Zero = inr (λ e. cc)
trit_cases One X = inr (λ e. cc)
trit_cases X Zero = inr (λ e. cc)
trit_cases X One = inr (λ e. cc)

-- no value is opposite to itself
pub not_itself : (good other : Trit) → IsOpposite good other → other ≡ good → ⊥
not_itself X other opposite same = opposite.0 refl
not_itself Zero other opposite same = let e = opposite.1 in cc
not_itself One other opposite same = let e = opposite.1 in cc

-- the least number is that of the values on which both agree
module _ (goods early late all : ℕ → Trit) (nets : List ℕ)
    (from : (net : ℕ) → IsOpposite (goods net) (all net) → IsOpposite (goods net) (early net) ⊎ IsOpposite (goods net) (late net))
    (of_early : (net : ℕ) → IsOpposite (goods net) (early net) → IsOpposite (goods net) (all net))
    (of_late : (net : ℕ) → IsOpposite (goods net) (late net) → IsOpposite (goods net) (all net)) where
  pub least_first : (one other : ℕ) → IsFirstNumber goods early nets one → IsFirstNumber goods late nets other → IsFirstNumber goods all nets (min one other)
  least_first one other is also = record {
    within = let a = is.within in omega arith;
    here = λ less. elim (cases_lt other one) [
      | inl low ↦
          let e : min one other ≡ other = omega arith in
          subst (IsOppositeAt goods all nets) (sym e) (of_late (slice_index nets other) (also.here (omega arith)))
      | inr high ↦
          let e : min one other ≡ one = omega arith in
          subst (IsOppositeAt goods all nets) (sym e) (of_early (slice_index nets one) (is.here (omega arith)))
    ];
    before = λ place less opposite. elim (from (slice_index nets place) opposite) [
      | inl early_is ↦ is.before place (omega arith) early_is
      | inr late_is ↦ also.before place (omega arith) late_is
    ];
  }

module _ (chip : Chip) (place_of number_of : ℕ → ℕ) (linked : IsLinked chip place_of number_of) (goods : ℕ → Trit) where
  -- what is behind an instance has no lower place
  after_later : (u w : ℕ) → u < count_of chip → IsAfter chip u w → place_of u < place_of w
  after_later u w known following =
      let late = reached_late chip place_of linked.is_chip u known (net_of chip w following.pin) following.reached in
      let less : place_of late.drives.instance < place_of w = linked.is_chip.ranked w following.pin following.known following.within late.drives in
      let least = late.late in
      omega arith

  -- an output net of an instance of a lower place, and not of u, isn't behind u
  not_behind : (u v output : ℕ) → v < count_of chip → (v ≡ u → ⊥) → place_of v ≤ place_of u → output < outputs_at chip v → IsBehind chip place_of u (output_net chip v output) → ⊥
  not_behind u v output known apart low within behind =
      not_other chip place_of number_of linked behind.instance v output behind.known known
      (λ e. elim behind.onward [
        | inl own ↦ apart (e ∙ own)
        | inr onward ↦ let p = ap place_of e in absurd (omega arith)
      ]) within behind.out

  -- nor is an input net, or the net of an input pin of such an instance
  input_not_behind : (u net : ℕ) → net_kind chip net ≡ Input → IsBehind chip place_of u net → ⊥
  input_not_behind u net kind behind = not_input chip place_of number_of linked behind.instance net behind.known kind behind.out

  pin_not_behind : (u v pin : ℕ) → v < count_of chip → place_of v ≤ place_of u → pin < inputs_at chip v → IsBehind chip place_of u (net_of chip v pin) → ⊥
  pin_not_behind u v pin known low within behind =
      let less = later chip place_of number_of linked behind.instance v pin behind.known known within behind.out in
      elim behind.onward [
        | inl own ↦ let p = ap place_of own in absurd (omega arith)
        | inr onward ↦ absurd (omega arith)
      ]

  module _ (u w : ℕ) (flips onward : Flips) (number after : ℕ) (known : u < count_of chip)
      (cut : IsCutAt chip place_of goods u flips number w onward) (rest : IsSweptFrom chip place_of goods w onward after) where
    early : ℕ → Trit
    early = cut.values

    late : ℕ → Trit
    late = rest.values

    -- the values after the cut where they aren't the good ones, else those before it
    abbrev all : ℕ → Trit
    all net = later_value (rest.values net) (goods net) (cut.values net)

    still : (net : ℕ) → (IsBehind chip place_of w net → ⊥) → all net ≡ cut.values net
    still net none = elim (rest.changed net) [
      | inl good ↦ later_good (rest.values net) (goods net) (cut.values net) good
      | inr behind ↦ absurd (none behind)
    ]

    own : (output : ℕ) → output < outputs_at chip w → cut.values (output_net chip w output) ≡ rest.values (output_net chip w output)
    own output within = cut.cut output within ∙ sym (rest.swept.given output within)

    own_net : (net : ℕ) → IsOutputBelow chip w (outputs_at chip w) net → cut.values net ≡ rest.values net
    own_net net out = subst (λ n. cut.values n ≡ rest.values n) out.on (own out.output out.within)

    ahead_net : (net : ℕ) → cut.values net ≡ goods net → all net ≡ rest.values net
    ahead_net net good = later_late (rest.values net) (goods net) (cut.values net) good

    not_u : w ≡ u → ⊥
    not_u e = let p = ap place_of e in let less = cut.until.onward in absurd (omega arith)

    -- an instance up to w has the values before the cut at its pins
    pins_early : (v : ℕ) → v < count_of chip → place_of v ≤ place_of w → (pin : ℕ) → pin < inputs_at chip v → all (net_of chip v pin) ≡ cut.values (net_of chip v pin)
    pins_early v v_known low pin within = still (net_of chip v pin) (pin_not_behind w v pin v_known low within)

    outputs_early : (v : ℕ) → v < count_of chip → place_of v ≤ place_of w → (output : ℕ) → output < outputs_at chip v → all (output_net chip v output) ≡ cut.values (output_net chip v output)
    outputs_early v v_known low output within = elim (cases_eq v w) [
      | inl e ↦ subst (λ x. output < outputs_at chip x → all (output_net chip x output) ≡ cut.values (output_net chip x output)) (sym e)
          (λ w_within. later_same (rest.values (output_net chip w output)) (goods (output_net chip w output)) (cut.values (output_net chip w output)) (own output w_within) ∙ sym (own output w_within)) within
      | inr apart ↦ still (output_net chip v output) (not_behind w v output v_known apart low within)
    ]

    -- one after it those after the cut
    pins_late : (v : ℕ) → v < count_of chip → (v ≡ u → ⊥) → place_of w < place_of v → (pin : ℕ) → pin < inputs_at chip v → all (net_of chip v pin) ≡ rest.values (net_of chip v pin)
    pins_late v v_known apart high pin within = elim (cut.until.waiting v pin v_known apart high within) [
      | inl good ↦ ahead_net (net_of chip v pin) good
      | inr out ↦ later_same (rest.values (net_of chip v pin)) (goods (net_of chip v pin)) (cut.values (net_of chip v pin)) (own_net (net_of chip v pin) out)
    ]

    outputs_late : (v : ℕ) → v < count_of chip → (v ≡ u → ⊥) → place_of w < place_of v → (output : ℕ) → output < outputs_at chip v → all (output_net chip v output) ≡ rest.values (output_net chip v output)
    outputs_late v v_known apart high output within = ahead_net (output_net chip v output) (cut.until.ahead v output v_known apart high within)

    -- what one of two lists of values says of an instance with these pins, all says
    kept_by : (v : ℕ) (values : ℕ → Trit) → ((pin : ℕ) → pin < inputs_at chip v → all (net_of chip v pin) ≡ values (net_of chip v pin))
        → ((output : ℕ) → output < outputs_at chip v → all (output_net chip v output) ≡ values (output_net chip v output))
        → KeepsGood chip v goods values ⊎ IsEvaluated chip v values → KeepsGood chip v goods all ⊎ IsEvaluated chip v all
    kept_by v values pins outs (inl kept) = inl (record {
      pins = λ pin within. pins pin within ∙ kept.pins pin within;
      outputs = λ output within. outs output within ∙ kept.outputs output within;
    })
    kept_by v values pins outs (inr was) = inr (λ output within.
        subst (λ vector. EndsByLast (cell_at chip v) vector output (all (output_net chip v output)))
        (vector_same chip v values all (λ pin k. sym (pins pin k)))
        (subst (EndsByLast (cell_at chip v) (vector_at chip v values) output) (sym (outs output within)) (was output within)))

    others : (v : ℕ) → v < count_of chip → (v ≡ u → ⊥) → KeepsGood chip v goods all ⊎ IsEvaluated chip v all
    others v v_known apart = elim (cases_lt (place_of w) (place_of v)) [
      | inl high ↦ kept_by v rest.values (pins_late v v_known apart high) (outputs_late v v_known apart high)
          (rest.swept.others v v_known (λ e. let p = ap place_of e in absurd (omega arith)))
      | inr low ↦ kept_by v cut.values (pins_early v v_known low) (outputs_early v v_known low) (cut.until.before v v_known apart low)
    ]

    all_swept : AreSwept chip u goods (flipped_outputs chip u goods flips) all
    all_swept = record {
      inputs = λ net within kind. still net (input_not_behind w net kind) ∙ cut.until.inputs net within kind;
      given = λ output within. outputs_early u known (let less = cut.until.onward in omega arith) output within ∙ cut.until.given output within;
      others = others;
    }

    -- what is behind w is behind u
    behind_on : (net : ℕ) → IsBehind chip place_of w net → IsBehind chip place_of u net
    behind_on net behind = record {
      instance = behind.instance;
      known = behind.known;
      onward = inr (let less = cut.until.onward in elim behind.onward [
        | inl own_is ↦ let p = ap place_of own_is in omega arith
        | inr high ↦ omega arith
      ]);
      out = behind.out;
    }

    -- a net that changed on both sides of the cut is an output net of w
    agrees : (net : ℕ) → (rest.values net ≢ goods net) → (cut.values net ≡ goods net) ⊎ (cut.values net ≡ rest.values net)
    agrees net changed = elim (rest.changed net) [
      | inl good ↦ absurd (changed good)
      | inr behind ↦ elim behind.onward [
        | inl own_is ↦ inr (own_net net (subst (λ x. IsOutputBelow chip x (outputs_at chip x) net) own_is behind.out))
        | inr high ↦
            let out = behind.out in
            inl (subst (λ n. cut.values n ≡ goods n) out.on
            (cut.until.ahead behind.instance out.output behind.known (λ e. let p = ap place_of e in let less = cut.until.onward in absurd (omega arith)) high out.within))
      ]
    ]

    from_either : (net : ℕ) → IsOpposite (goods net) (all net) → IsOpposite (goods net) (cut.values net) ⊎ IsOpposite (goods net) (rest.values net)
    from_either net opposite = elim (rest.changed net) [
      | inl good ↦ inl (subst (IsOpposite (goods net)) (later_good (rest.values net) (goods net) (cut.values net) good) opposite)
      | inr behind ↦ elim (trit_cases (rest.values net) (goods net)) [
        | inl good ↦ inl (subst (IsOpposite (goods net)) (later_good (rest.values net) (goods net) (cut.values net) good) opposite)
        | inr changed ↦ elim (agrees net changed) [
          | inl good ↦ inr (subst (IsOpposite (goods net)) (ahead_net net good) opposite)
          | inr same ↦ inr (subst (IsOpposite (goods net)) (later_same (rest.values net) (goods net) (cut.values net) same) opposite)
        ]
      ]
    ]

    of_cut : (net : ℕ) → IsOpposite (goods net) (cut.values net) → IsOpposite (goods net) (all net)
    of_cut net opposite = elim (trit_cases (rest.values net) (goods net)) [
      | inl good ↦ subst (IsOpposite (goods net)) (sym (later_good (rest.values net) (goods net) (cut.values net) good)) opposite
      | inr changed ↦ elim (agrees net changed) [
        | inl good ↦ absurd (not_itself (goods net) (cut.values net) opposite good)
        | inr same ↦ subst (IsOpposite (goods net)) (same ∙ sym (later_same (rest.values net) (goods net) (cut.values net) same)) opposite
      ]
    ]

    of_rest : (net : ℕ) → IsOpposite (goods net) (rest.values net) → IsOpposite (goods net) (all net)
    of_rest net opposite = elim (agrees net (λ e. not_itself (goods net) (rest.values net) opposite e)) [
      | inl good ↦ subst (IsOpposite (goods net)) (sym (ahead_net net good)) opposite
      | inr same ↦ subst (IsOpposite (goods net)) (sym (later_same (rest.values net) (goods net) (cut.values net) same)) opposite
    ]

    -- both parts are a sweep, and the first output is the lesser of theirs
    pub joined : IsSweptFrom chip place_of goods u flips (min number after)
    joined = record {
      values = all;
      swept = all_swept;
      changed = λ net. elim (rest.changed net) [
        | inl good ↦ elim (cut.until.changed net) [
          | inl also ↦ inl (later_good (rest.values net) (goods net) (cut.values net) good ∙ also)
          | inr behind ↦ inr behind
        ]
        | inr behind ↦ inr (behind_on net behind)
      ];
      first = least_first goods cut.values rest.values all chip.outputs from_either of_cut of_rest number after cut.first rest.first;
    }

  -- what has changed is behind u
  behind_of : (u : ℕ) (outputs : ℕ → Trit) (from : ℕ) (values : Values) → u < count_of chip → IsSweptTo chip place_of u goods outputs from values
      → (net : ℕ) → (value_at values.values net ≡ goods net) ⊎ IsBehind chip place_of u net
  behind_of u outputs from values known so_far net = elim (so_far.changed net) [
    | inl good ↦ inl good
    | inr (inl out) ↦ inr (record { instance = u; known = known; onward = inl refl; out = out })
    | inr (inr touched) ↦
        let found = so_far.due (place_of touched.instance) touched.is_due in
        let less = after_later u found.0 known found.1 in
        let at = found.2 in
        let placed = touched.placed in
        inr (record { instance = touched.instance; known = placed.known; onward = inr (let l : place_of u < place_of touched.instance = omega arith in l); out = touched.out })
  ]

  module _ (u : ℕ) (flips : Flips) (known : u < count_of chip) (from : ℕ) where
    -- a sweep that comes to its end
    pub ends_swept : (values : Values) → IsSweptTo chip place_of u goods (flipped_outputs chip u goods flips) from values → IsNext values.due from None
        → AreSwept chip u goods (flipped_outputs chip u goods flips) (value_at values.values)
        × ((net : ℕ) → (value_at values.values net ≡ goods net) ⊎ IsBehind chip place_of u net)
    ends_swept values so_far none = (
      swept_ends chip place_of number_of linked u known goods (flipped_outputs chip u goods flips) from values so_far none,
      behind_of u (flipped_outputs chip u goods flips) from values known so_far,
    )

    -- one that is cut where a single instance was due
    pub cut_made : (place w : ℕ) (old new : Values) → IsSweptTo chip place_of u goods (flipped_outputs chip u goods flips) from old → IsNext old.due from (Some place)
        → IsNext old.due (place + 1) None → IsEvaluatedAt chip place_of place old new → IsPlaced chip place_of w → place_of w ≡ place
        → IsSweptUntil chip place_of goods u flips w (value_at new.values)
    cut_made place w old new so_far next none done placed at = record {
      placed = placed;
      onward = let found = so_far.due place next.1 in let less = after_later u found.0 known found.1 in let same = found.2 in omega arith;
      inputs = so_now.inputs;
      given = so_now.given;
      before = λ v v_known apart low. so_now.before v v_known apart (omega arith);
      ahead = λ v output v_known apart high within. so_now.ahead v output v_known apart (omega arith) within;
      waiting = λ v pin v_known apart high within. elim (so_far.waiting v pin v_known apart (let low = next.0 in omega arith) within) [
        | inr due ↦ absurd (none (place_of v) (omega arith) due)
        | inl good ↦ elim (done.evaluated.written.changes.changed (net_of chip v pin)) [
          | inl same ↦ inl (same ∙ good)
          | inr out ↦ inr (subst (λ x. IsOutputBelow chip x (outputs_at chip x) (net_of chip v pin)) (linked.apart done.instance w done.placed placed (done.at ∙ sym at)) out)
        ]
      ];
      changed = behind_of u (flipped_outputs chip u goods flips) (place + 1) new known so_now;
    }
      where
        so_now : IsSweptTo chip place_of u goods (flipped_outputs chip u goods flips) (place + 1) new
        so_now = swept_passes chip place_of number_of linked u known goods (flipped_outputs chip u goods flips) from place old new so_far next done

-- where a sweep is found to its end, the answer is its first output
pub number_seen : (chip : Chip) (place_of : ℕ → ℕ) (goods : ℕ → Trit) (u : ℕ) (flips : Flips) (number : ℕ) → IsClear chip goods u
    → IsSweptFrom chip place_of goods u flips number → number < length chip.outputs → IsSeenFrom chip goods u flips (Some number)
number_seen chip place_of goods u flips number clear is less = record {
  clear = clear;
  values = is.values;
  swept = is.swept;
  first = (less, is.first.here less, is.first.before);
}

pub nowhere_seen : (chip : Chip) (place_of : ℕ → ℕ) (goods : ℕ → Trit) (u : ℕ) (flips : Flips) (number : ℕ) → IsClear chip goods u
    → IsSweptFrom chip place_of goods u flips number → length chip.outputs ≤ number → IsSeenFrom chip goods u flips None
nowhere_seen chip place_of goods u flips number clear is past = record {
  clear = clear;
  values = is.values;
  swept = is.swept;
  first = λ place less. is.first.before place (omega arith);
}

-- no part is of a new age
pub segments_none : (chip : Chip) (place_of : ℕ → ℕ) (goods : ℕ → Trit) (segments : Segments) → length segments.slots.items ≡ 4 * count_of chip
    → AreAges segments.slots.items segments.age
    → ((k : ℕ) (aged : Aged) → get_or segments.slots.items k None ≡ Some aged → aged.age ≡ segments.age → ⊥) → AreSegments chip place_of goods segments
segments_none chip place_of goods segments room ages none = record {
  room = room;
  ages = ages;
  each = λ u flips segment of_age. absurd (none (4 * u + code_of flips.first flips.second) of_age.aged of_age.slot_is of_age.age_is);
}

-- the age that comes after one has no part
pub segments_newer : (chip : Chip) (place_of : ℕ → ℕ) (old new : ℕ → Trit) (before after : Segments) → AreSegments chip place_of old before
    → after.slots.items ≡ before.slots.items → after.age ≡ before.age + 1 → AreSegments chip place_of new after
segments_newer chip place_of old new before after are slots_are age_is =
    segments_none chip place_of new after (ap length slots_are ∙ are.room)
    (λ k aged at. let le = are.ages k aged (ap (λ list. get_or list k None) (sym slots_are) ∙ at) in omega arith)
    (λ k aged at is. let le = are.ages k aged (ap (λ list. get_or list k None) (sym slots_are) ∙ at) in absurd (omega arith))

-- a list without parts has none of any age
pub segments_empty : (chip : Chip) (place_of : ℕ → ℕ) (goods : ℕ → Trit) (segments : Segments) → length segments.slots.items ≡ 4 * count_of chip
    → ((k : ℕ) → get_or segments.slots.items k None ≡ None) → AreSegments chip place_of goods segments
segments_empty chip place_of goods segments room none =
    segments_none chip place_of goods segments room
    (λ k aged at. let e : None ≡ Some aged = sym (none k) ∙ at in absurd cc)
    (λ k aged at is. let e : None ≡ Some aged = sym (none k) ∙ at in absurd cc)

-- a part that is kept says what is so
pub segment_read : (chip : Chip) (place_of : ℕ → ℕ) (goods : ℕ → Trit) (segments : Segments) (u : ℕ) (flips : Flips) (code : ℕ) (slot : Option Aged) (found : Option Segment)
    → code ≡ code_of flips.first flips.second → AreSegments chip place_of goods segments → slot ≡ get_or segments.slots.items (4 * u + code) None
    → IfSome found (IsOfAge slot segments.age) → IfSome found (IsSegment chip place_of goods u flips)
segment_read chip place_of goods segments u flips code slot None code_is are read of_age = tt
segment_read chip place_of goods segments u flips code slot (Some segment) code_is are read of_age =
    are.each u flips segment (subst (λ s. IsOfAge s segments.age segment) (read ∙ ap (λ k. get_or segments.slots.items (4 * u + k) None) code_is) of_age)

-- the ages are so after one more part
pub ages_put : (slots : List (Option Aged)) (age place : ℕ) (aged : Aged) → AreAges slots age → aged.age ≡ age → place < length slots
    → AreAges (slice_set slots place (Some aged)) age
ages_put slots age place aged ages is within k other at = elim (cases_eq k place) [
  | inl e ↦
      let here : get_or (slice_set slots place (Some aged)) k None ≡ Some aged = ap (λ j. get_or (slice_set slots place (Some aged)) j None) e ∙ get_or-set_same slots place (Some aged) None within in
      let both : Some aged ≡ Some other = sym here ∙ at in
      let same : aged ≡ other = cc in
      let age_same = ap (λ (x : Aged). x.age) same in
      omega arith
  | inr apart ↦ ages k other (sym (get_or-set_other slots place k (Some aged) None apart) ∙ at)
]

-- one part more is kept
pub segments_put : (chip : Chip) (place_of : ℕ → ℕ) (goods : ℕ → Trit) (old new : Segments) (u : ℕ) (flips : Flips) (segment : Segment) (aged : Aged) (code : ℕ)
    → code ≡ code_of flips.first flips.second → 4 * u + 4 ≤ length old.slots.items → AreSegments chip place_of goods old → IsSegment chip place_of goods u flips segment
    → aged.segment ≡ segment → aged.age ≡ old.age → new.age ≡ old.age → new.slots.items ≡ slice_set old.slots.items (4 * u + code) (Some aged) → AreSegments chip place_of goods new
segments_put chip place_of goods old new u flips segment aged code code_is room are is aged_is now_is age_is slots_are =
    let slots = old.slots.items in
    record {
      room = ap length slots_are ∙ length-set slots (4 * u + code) (Some aged) ∙ are.room;
      ages = subst (AreAges new.slots.items) (sym age_is) (subst (λ list. AreAges list old.age) (sym slots_are)
          (ages_put slots old.age (4 * u + code) aged are.ages now_is
          (let few = code_small flips.first flips.second in let e = code_is in omega arith)));
      each = λ v other found of_age.
          let small = code_small flips.first flips.second in
          let small_other = code_small other.first other.second in
          let at : get_or (slice_set slots (4 * u + code) (Some aged)) (4 * v + code_of other.first other.second) None ≡ Some of_age.aged =
          ap (λ list. get_or list (4 * v + code_of other.first other.second) None) (sym slots_are) ∙ of_age.slot_is in
          elim (cases_eq (4 * v + code_of other.first other.second) (4 * u + code)) [
            | inl e ↦
                let same : v ≡ u = omega arith in
                let codes : code_of other.first other.second ≡ code_of flips.first flips.second = omega arith in
                let flips_are = same_code other.first other.second flips.first flips.second codes in
                let here : get_or (slice_set slots (4 * u + code) (Some aged)) (4 * v + code_of other.first other.second) None ≡ Some aged =
                ap (λ k. get_or (slice_set slots (4 * u + code) (Some aged)) k None) e ∙ get_or-set_same slots (4 * u + code) (Some aged) None (omega arith) in
                let both : Some aged ≡ Some of_age.aged = sym here ∙ at in
                let aged_same : aged ≡ of_age.aged = cc in
                let found_is : segment ≡ found = sym aged_is ∙ ap (λ (x : Aged). x.segment) aged_same ∙ of_age.segment_is in
                subst (λ x. IsSegment chip place_of goods x other found) (sym same)
                (subst (λ a. IsSegment chip place_of goods u (record { first = a; second = other.second }) found) (sym flips_are.0)
                (subst (λ b. IsSegment chip place_of goods u (record { first = flips.first; second = b }) found) (sym flips_are.1)
                (subst (IsSegment chip place_of goods u flips) found_is is)))
            | inr apart ↦ are.each v other found (record {
              aged = of_age.aged;
              slot_is = sym (get_or-set_other slots (4 * u + code) (4 * v + code_of other.first other.second) (Some aged) None apart) ∙ at;
              age_is = of_age.age_is ∙ age_is;
              segment_is = of_age.segment_is;
            })
          ];
    }
