-- The joins of spans are those of their netlist.
use Rattle.std.proofs.Common.{◌≡◌, ℕ, zero, suc, ◌+◌, ◌<◌, ◌≤◌, ◌||◌, List, [], ◌∷◌, ◌++◌, Bool, true, false}
use Rattle.std.proofs.Common.{length, inl, inr, refl, sym, ◌∙◌, ap, subst, arith, get_or, true≢false}
use Rattle.std.specs.Prelude.{Some, slice_get, flat_map, if◌then◌else◌, ◌&&◌, eqb}
use Rattle.std.specs.List.{Contains, All, list_any}
use mathlib.Core.Bool.{beq}
use Rattle.std.proofs.lemmas.Bool.{ne_eqb}
use Rattle.indexmap.specs.IndexSet.{insert_key}
use native.Mathlib.Decide.{ℕ_discrete}
use Rattle.std.proofs.lemmas.Option.{slice_get-get_or, slice_get_within, get_or_from_slice_get}
use Rattle.std.proofs.lemmas.List.Elements.{Contains-append_left, Contains-append_right}
use Rattle.std.proofs.lemmas.List.Elements.{Contains-append_cases, Contains-push, Contains-push_cases}
use Rattle.ca_verilog.specs.declared.raw.RawBit.{RawBit}
use Rattle.ca_verilog.specs.declared.raw.RawBit.TheVariants.{Bit, Constant}
use Rattle.ca_verilog.specs.declared.raw.RawJoin.{RawJoin}
use Rattle.ca_verilog.specs.declared.raw.RawSpan.{RawSpan}
use Rattle.ca_verilog.specs.Joins.{bit_after, pairs_from, pairs_of}
use Rattle.ca_verilog.specs.IsNetlist.{IsBit, IsJoinOf}
use Rattle.ca_wiring.specs.declared.joined.Join.{Join}
use Rattle.ca_wiring.specs.declared.joined.Span.{Span}
use Rattle.ca_wiring.specs.code.Joined.{IsWithin}
use Rattle.ca_wiring.specs.Wiring.{wire_of, joins_of}
use Rattle.ca_wiring.specs.code.Spans.{wire_after, join_at, is_moving, span_of, IsWith, IsSpanWithin}
use Rattle.ca_wiring.specs.code.Spans.{IsAmongFirst}
use Rattle.ca_wiring.specs.code.Spans.{AreJoinsOf, IsOneOf, AreSpansOf}

module _ (bits : ℕ) where
  -- the wire of a bit further right
  following : (bit : RawBit) (step : ℕ) → wire_of bits (bit_after step bit) ≡ wire_after (wire_of bits bit) (is_moving bit) step
  following (Bit number) step = refl
  following (Constant true) step = refl
  following (Constant false) step = refl

  -- the join of a pair
  abbrev pub join_of : RawJoin → Join
  join_of pair = record { left = wire_of bits pair.left; right = wire_of bits pair.right }

  -- the pair so far to the right
  abbrev pub pair_at : RawSpan → ℕ → RawJoin
  pair_at raw step = record { left = bit_after step raw.left; right = bit_after step raw.right }

  is_pair : (raw : RawSpan) (step : ℕ) → join_of (pair_at raw step) ≡ join_at (span_of bits raw) step
  is_pair raw step =
      ap (λ (l : ℕ). let made : Join = record { left = l; right = wire_of bits (bit_after step raw.right) } in made) (following raw.left step)
      ∙ ap (λ (r : ℕ). let made : Join = record { left = wire_after (wire_of bits raw.left) (is_moving raw.left) step; right = r } in made) (following raw.right step)

  -- what is among the pairs from one on is that far to the right
  from_pairs : (raw : RawSpan) (count step : ℕ) (pair : RawJoin) → Contains (pairs_from raw step count) pair
      → (k : ℕ) × (k < count) × (pair_at raw (step + k) ≡ pair)
  from_pairs raw zero step pair has = absurd (let lt = has.1 in omega (arith, lt))
  from_pairs raw (suc count) step pair (zero, lt, e) =
      (0, omega arith, ap (pair_at raw) (let s : step + 0 ≡ step = omega arith in s) ∙ e)
  from_pairs raw (suc count) step pair (suc k, lt, e) =
      let rest = from_pairs raw count (step + 1) pair (k, (let l = lt in omega (arith, l)), e) in
      (suc rest.0, (let l = rest.1 in omega (arith, l)), ap (pair_at raw) (let s : step + suc rest.0 ≡ (step + 1) + rest.0 = omega arith in s) ∙ rest.2)

  to_pairs : (raw : RawSpan) (count step k : ℕ) → k < count → Contains (pairs_from raw step count) (pair_at raw (step + k))
  to_pairs raw zero step k lt = absurd (omega (arith, lt))
  to_pairs raw (suc count) step zero lt =
      (0, omega arith, ap (pair_at raw) (let s : step ≡ step + 0 = omega arith in s))
  to_pairs raw (suc count) step (suc k) lt =
      let rest = to_pairs raw count (step + 1) k (omega (arith, lt)) in
      subst (λ s. Contains (pairs_from raw step (suc count)) (pair_at raw s)) (let s : (step + 1) + k ≡ step + suc k = omega arith in s)
      (suc rest.0, (let l = rest.1 in omega (arith, l)), rest.2)

  -- the same of all pairs of a span
  pub from_span : (raw : RawSpan) (pair : RawJoin) → Contains (pairs_of raw) pair → (k : ℕ) × (k < raw.count) × (pair_at raw k ≡ pair)
  from_span raw pair has =
      let from = from_pairs raw raw.count 0 pair has in
      (from.0, from.1, ap (pair_at raw) (let s : from.0 ≡ 0 + from.0 = omega arith in s) ∙ from.2)

  pub to_span : (raw : RawSpan) (step : ℕ) → step < raw.count → Contains (pairs_of raw) (pair_at raw step)
  to_span raw step lt =
      subst (λ s. Contains (pairs_of raw) (pair_at raw s)) (let s : 0 + step ≡ step = omega arith in s) (to_pairs raw raw.count 0 step lt)

  -- what is among the pairs of spans is among those of one
  pub from_all : (raws : List RawSpan) (pair : RawJoin) → Contains (flat_map pairs_of raws) pair
      → (place : ℕ) × (raw : RawSpan) × (slice_get raws place ≡ Some raw) × Contains (pairs_of raw) pair
  from_all [] pair has = absurd (let lt = has.1 in omega (arith, lt))
  from_all (raw ∷ raws) pair has = elim (Contains-append_cases (pairs_of raw) (flat_map pairs_of raws) pair has) [
    | inl here ↦ (0, raw, refl, here)
    | inr later ↦ let rest = from_all raws pair later in (suc rest.0, rest.1, rest.2, rest.3)
  ]

  pub to_all : (raws : List RawSpan) (place : ℕ) (raw : RawSpan) (pair : RawJoin) → slice_get raws place ≡ Some raw
      → Contains (pairs_of raw) pair → Contains (flat_map pairs_of raws) pair
  to_all [] place raw pair at has = absurd (let lt = slice_get_within [] place raw at in omega (arith, lt))
  to_all (first ∷ raws) zero raw pair at has =
      let same : first ≡ raw = cc in
      Contains-append_left (pairs_of first) (flat_map pairs_of raws) pair (subst (λ (r : RawSpan). Contains (pairs_of r) pair) (sym same) has)
  to_all (first ∷ raws) (suc place) raw pair at has =
      Contains-append_right (pairs_of first) (flat_map pairs_of raws) pair (to_all raws place raw pair at has)

  -- the join of a listed pair is listed, and each listed join is one's
  pub from_joins : (pairs : List RawJoin) (join : Join) → Contains (joins_of bits pairs) join
      → (pair : RawJoin) × Contains pairs pair × (join_of pair ≡ join)
  from_joins [] join has = absurd (let lt = has.1 in omega (arith, lt))
  from_joins (pair ∷ pairs) join (zero, lt, e) = (pair, (0, omega arith, refl), e)
  from_joins (pair ∷ pairs) join (suc k, lt, e) =
      let rest = from_joins pairs join (k, (let l = lt in omega (arith, l)), e) in
      (rest.0, (suc rest.1.0, (let l = rest.1.1 in omega (arith, l)), rest.1.2), rest.2)

  pub to_joins : (pairs : List RawJoin) (pair : RawJoin) → Contains pairs pair → Contains (joins_of bits pairs) (join_of pair)
  to_joins [] pair has = absurd (let lt = has.1 in omega (arith, lt))
  to_joins (first ∷ pairs) pair (zero, lt, e) = (0, omega arith, ap join_of e)
  to_joins (first ∷ pairs) pair (suc k, lt, e) =
      let rest = to_joins pairs pair (k, (let l = lt in omega (arith, l)), e) in
      (suc rest.0, (let l = rest.1 in omega (arith, l)), rest.2)

  module _ (raws : List RawSpan) (spans : List Span) (are : AreSpansOf bits raws (length raws) spans) where
    -- a join of the spans is that of a pair
    pair_of : (join : Join) → IsAmongFirst spans (length spans) join
        → (pair : RawJoin) × Contains (flat_map pairs_of raws) pair × (join_of pair ≡ join)
    pair_of join among =
        let listed : Contains spans among.span =
        (among.place, slice_get_within spans among.place among.span among.at, get_or_from_slice_get spans among.place among.span among.span among.at) in
        let one = (are among.span).0 listed in
        let step : among.step < one.raw.count = subst (λ (s : Span). among.step < s.count) (sym one.same) among.within in (
          pair_at one.raw among.step,
          to_all raws one.place one.raw (pair_at one.raw among.step) one.at (to_span one.raw among.step step),
          is_pair one.raw among.step ∙ ap (λ (s : Span). join_at s among.step) one.same ∙ among.same,
        )

    pub are_joins : AreJoinsOf spans (joins_of bits (flat_map pairs_of raws))
    are_joins = record {
      each = λ join has.
          let pair = from_joins (flat_map pairs_of raws) join has in
          let from = from_all raws pair.0 pair.1 in
          let step = from_span from.1 pair.0 from.3 in
          let listed = (are (span_of bits from.1)).1 (record {
            place = from.0;
            raw = from.1;
            before = slice_get_within raws from.0 from.1 from.2;
            at = from.2;
            same = refl;
          }) in
          record {
            place = listed.0;
            span = span_of bits from.1;
            step = step.0;
            before = listed.1;
            at = slice_get-get_or spans listed.0 (span_of bits from.1) listed.1 ∙ ap Some listed.2;
            within = step.1;
            same = sym (is_pair from.1 step.0) ∙ ap join_of step.2 ∙ pair.2;
          };
      all = λ join among.
          let pair = pair_of join among in
          subst (Contains (joins_of bits (flat_map pairs_of raws))) pair.2 (to_joins (flat_map pairs_of raws) pair.0 pair.1);
    }

    -- all joins of the spans are of this many wires
    pub spans_within : (wires : ℕ) → bits + 1 < wires → All (IsJoinOf bits) (flat_map pairs_of raws) → All (IsSpanWithin wires) spans
    spans_within wires lt declared k d at = λ step within.
        let span = get_or spans k d in
        let pair = pair_of (join_at span step) (record {
          place = k;
          span = span;
          step = step;
          before = at;
          at = slice_get-get_or spans k d at;
          within = within;
          same = refl;
        }) in
        let is : IsJoinOf bits pair.0 = subst (IsJoinOf bits) pair.1.2 (declared pair.1.0 pair.0 pair.1.1) in
        subst (IsWithin wires) pair.2 (bit_within pair.0.left is.0, bit_within pair.0.right is.1)
      where
        bit_within : (bit : RawBit) → IsBit bits bit → wire_of bits bit < wires
        bit_within (Bit number) is = omega (arith, is, lt)
        bit_within (Constant true) is = lt
        bit_within (Constant false) is = omega (arith, lt)

and_first : (x y : Bool) → (x && y) ≡ true → x ≡ true
and_first true y e = refl
and_first false y e = e

and_second : (x y : Bool) → (x && y) ≡ true → y ≡ true
and_second true y e = e
and_second false y e = absurd (true≢false (sym e))

same_bool : (x y : Bool) → beq x y ≡ true → x ≡ y
same_bool true true e = refl
same_bool true false e = absurd (true≢false (sym e))
same_bool false true e = absurd (true≢false (sym e))
same_bool false false e = refl

same_number : (x y : ℕ) → eqb x y ≡ true → x ≡ y
same_number x y e = elim (ℕ_discrete x y) [
  | yes same ↦ same
  | no ne ↦ absurd (true≢false (sym e ∙ ne_eqb x y ne))
]

-- spans that are equal field by field
pub same_span : (a b : Span)
    → (eqb a.left b.left && (eqb a.right b.right && (beq a.left_moves b.left_moves && (beq a.right_moves b.right_moves && eqb a.count b.count))))
    ≡ true → a ≡ b
same_span a b e =
    let right_on = and_second (eqb a.left b.left) _ e in
    let moves_on = and_second (eqb a.right b.right) _ right_on in
    let other_on = and_second (beq a.left_moves b.left_moves) _ moves_on in
    let count_on = and_second (beq a.right_moves b.right_moves) _ other_on in
    ap (λ l. made l a.right a.left_moves a.right_moves a.count) (same_number a.left b.left (and_first (eqb a.left b.left) _ e))
    ∙ ap (λ r. made b.left r a.left_moves a.right_moves a.count) (same_number a.right b.right (and_first (eqb a.right b.right) _ right_on))
    ∙ ap (λ m. made b.left b.right m a.right_moves a.count) (same_bool a.left_moves b.left_moves (and_first (beq a.left_moves b.left_moves) _ moves_on))
    ∙ ap (λ m. made b.left b.right b.left_moves m a.count) (same_bool a.right_moves b.right_moves (and_first (beq a.right_moves b.right_moves) _ other_on))
    ∙ ap (λ n. made b.left b.right b.left_moves b.right_moves n) (same_number a.count b.count count_on)
  where
    made : ℕ → ℕ → Bool → Bool → ℕ → Span
    made left right left_moves right_moves count =
        record { left = left; right = right; left_moves = left_moves; right_moves = right_moves; count = count }

module _ (eq : Span → Span → Bool) (sound : (a b : Span) → eq a b ≡ true → a ≡ b) where
  equal_listed : (spans : List Span) (span : Span) → list_any (eq span) spans ≡ true → Contains spans span
  equal_listed [] span e = absurd (true≢false (sym e))
  equal_listed (first ∷ spans) span e = by (equal_listed spans span) (eq span first) refl e
    where
      by : (list_any (eq span) spans ≡ true → Contains spans span) → (same : Bool) → eq span first ≡ same
          → (same || list_any (eq span) spans) ≡ true → Contains (first ∷ spans) span
      by rest true same any = (0, omega arith, sym (sound span first same))
      by rest false same any = let found = rest any in (suc found.0, (let l = found.1 in omega (arith, l)), found.2)

  -- a key that is inserted is with the others
  pub with_key : (old : List Span) (span : Span) → IsWith span old (insert_key eq old span)
  with_key old span = by (list_any (eq span) old) refl
    where
      by : (found : Bool) → list_any (eq span) old ≡ found → IsWith span old (if found then old else old ++ span ∷ [])
      by true e other = (
        λ has. inl has,
        λ either. elim either [
          | inl has ↦ has
          | inr same ↦ subst (Contains old) same (equal_listed old span e)
        ],
      )
      by false e other = (
        λ has. Contains-push_cases old span other has,
        λ either. elim either [
          | inl has ↦ Contains-append_left old (span ∷ []) other has
          | inr same ↦ subst (Contains (old ++ span ∷ [])) same (Contains-push old span)
        ],
      )

pub with_inserted : {eq : Span → Span → Bool} (sound : (a b : Span) → eq a b ≡ true → a ≡ b) (old new : List Span) (span : Span)
    → new ≡ insert_key eq old span → IsWith span old new
with_inserted {eq} sound old new span e = subst (IsWith span old) (sym e) (with_key eq sound old span)

module _ (bits : ℕ) (raws : List RawSpan) where
  -- one more span of the netlist
  pub spans_more : (k : ℕ) (raw : RawSpan) (old new : List Span) → slice_get raws k ≡ Some raw → AreSpansOf bits raws k old
      → IsWith (span_of bits raw) old new → AreSpansOf bits raws (k + 1) new
  spans_more k raw old new at are is span = (there, back)
    where
      there : Contains new span → IsOneOf bits raws (k + 1) span
      there has = elim ((is span).0 has) [
        | inl was ↦
            let one = (are span).0 was in
            record { place = one.place; raw = one.raw; before = (let lt = one.before in omega (arith, lt)); at = one.at; same = one.same }
        | inr same ↦ record { place = k; raw = raw; before = omega arith; at = at; same = same }
      ]

      back : IsOneOf bits raws (k + 1) span → Contains new span
      back one = elim (ℕ_discrete one.place k) [
        | yes e ↦
            let both : Some raw ≡ Some one.raw = sym at ∙ ap (slice_get raws) (sym e) ∙ one.at in
            let same : raw ≡ one.raw = cc in
            (is span).1 (inr (ap (span_of bits) same ∙ one.same))
        | no ne ↦
            (is span).1 (inl ((are span).1 (record {
              place = one.place;
              raw = one.raw;
              before = (let lt = one.before in omega (arith, lt, ne));
              at = one.at;
              same = one.same;
            })))
      ]

  -- all of them
  pub spans_end : (k : ℕ) (spans : List Span) → length raws ≤ k → AreSpansOf bits raws k spans → AreSpansOf bits raws (length raws) spans
  spans_end k spans le are span = (
    λ has.
        let one = (are span).0 has in
        record { place = one.place; raw = one.raw; before = slice_get_within raws one.place one.raw one.at; at = one.at; same = one.same },
    λ one. (are span).1 (record {
      place = one.place;
      raw = one.raw;
      before = (let lt = one.before in omega (arith, lt, le));
      at = one.at;
      same = one.same;
    }),
  )

  pub no_spans : AreSpansOf bits raws 0 []
  no_spans span = (λ has. absurd (let lt = has.1 in omega (arith, lt)), λ one. absurd (let lt = one.before in omega (arith, lt)))
