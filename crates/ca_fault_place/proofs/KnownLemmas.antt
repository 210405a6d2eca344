-- The net of a number is known by the wire that the code finds for it.
use Rattle.std.proofs.Common.{◌≡◌, ℕ, zero, suc, ◌+◌, ◌<◌, ◌≤◌, ◌⊎◌, List, Bool, true, false}
use Rattle.std.proofs.Common.{inl, inr, refl, sym, ◌∙◌, ap, subst, arith, true≢false, get_or}
use Rattle.std.specs.Prelude.{Option, Some, None, slice_get, ◌↔◌, ◌&&◌, eqb, if◌then◌else◌, nat_lt}
use Rattle.std.specs.List.{All, Contains}
use Rattle.std.proofs.lemmas.Bool.{eqb-true, eq-eqb, ltb-true, ltb-false}
use Rattle.std.proofs.lemmas.List.Elements.{All-contains, All-map}
use Rattle.std.proofs.lemmas.Option.{slice_get_within, slice_get-get_or, get_or_from_slice_get}
use Rattle.std.proofs.Math.Decide.{dec_lt}
use native.Mathlib.Decide.{ℕ_discrete}
use Rattle.ca_cell.specs.Library.{Named}
use Rattle.ca_verilog.specs.declared.raw.RawJoin.{RawJoin}
use Rattle.ca_verilog.specs.declared.raw.RawNetlist.{RawNetlist}
use Rattle.ca_verilog.specs.IsNetlist.{bit_count, IsNetlist}
use Rattle.ca_wiring.specs.declared.scan_row.ScanRow.{ScanRow}
use Rattle.ca_wiring.specs.declared.joined.Join.{Join}
use Rattle.ca_wiring.specs.Joined.{AreJoined, Same, Across, AreEarliest, IsEarliest}
use Rattle.ca_wiring.specs.code.Joined.{IsWithin}
use Rattle.ca_wiring.specs.Wiring.{Wiring, joins_of, wiring_of}
use Rattle.ca_wiring.specs.Nets.{Driving, Drives, IsLoaded, IsNet, AreNets}
use Rattle.ca_wiring.specs.InstanceRules.{AreSound}
use Rattle.ca_wiring.specs.Numbers.{WireMarks}
use Rattle.ca_wiring.proofs.ForestLemmas.{joined_sym, joined_trans}
use Rattle.ca_linked.proofs.DriverLemmas.{some_inj}
use Rattle.ca_linked.proofs.OrderLemmas.{place_of, contained_at}
use Rattle.ca_draft.specs.code.OnWires.{AreMarks}
use Rattle.ca_fault_place.specs.code.Touched.{IsFoundAmong, IsFoundFor, IsNth, IsTouched, is_known}
use Rattle.ca_fault_place.specs.code.Touched.{known_count, touched_of}
use Rattle.ca_fault_place.proofs.WithinLemmas.{bit_within, touched_within}
use Rattle.ca_fault_place.proofs.BridgeLemmas.{touched_touches, drives_touched, load_touched}

both_true : (a b : Bool) → (a && b) ≡ true → (a ≡ true) × (b ≡ true)
both_true true true e = (refl, refl)
both_true true false e = absurd (true≢false (sym e))
both_true false b e = absurd (true≢false (sym e))

lt_trichotomy : (a b : ℕ) → (a < b) ⊎ ((a ≡ b) ⊎ (b < a))
lt_trichotomy a b = by (nat_lt a b) (nat_lt b a) refl refl
  where
    by : (less more : Bool) → nat_lt a b ≡ less → nat_lt b a ≡ more → (a < b) ⊎ ((a ≡ b) ⊎ (b < a))
    by true more lt gt = inl (ltb-true a b lt)
    by false true lt gt = inr (inr (ltb-true b a gt))
    by false false lt gt = let le = ltb-false a b lt in let ge = ltb-false b a gt in inr (inl (omega (arith, le, ge)))

-- joins of this many wires lead from one of them to one of them
pub joined_within : (joins : List Join) (wires : ℕ) → All (IsWithin wires) joins → (a b : ℕ) → AreJoined joins a b → a < wires → b < wires
joined_within joins wires all a b (Same e) lt = subst (λ n. n < wires) e lt
joined_within joins wires all a b (Across join c before has links) lt =
    let within = All-contains (IsWithin wires) joins join all has in
    elim links [
      | inl sides ↦ subst (λ n. n < wires) sides.1 within.1
      | inr sides ↦ subst (λ n. n < wires) sides.1 within.0
    ]

module _ (raw : RawNetlist) (library : List Named) (scan : List ScanRow) (is : IsNetlist raw) (sound : AreSound raw library scan)
    (marks : WireMarks) (wires : List ℕ) (listed : IsTouched raw (bit_count raw.buses) wires)
    (are : AreEarliest (joins_of (bit_count raw.buses) raw.joins) (bit_count raw.buses + 2) marks.earliest)
    (used : AreMarks marks.earliest wires marks.used) where
  abbrev bits : ℕ
  bits = bit_count raw.buses

  abbrev wiring : Wiring
  wiring = wiring_of raw library scan

  abbrev Used : ℕ → Type 0
  Used w = ((driving : Driving) × Drives wiring w driving) ⊎ IsLoaded wiring w

  all_within : All (IsWithin (bits + 2)) wiring.joins
  all_within = All-map (IsWithin (bits + 2)) (λ (join : RawJoin). record { left = _; right = _ }) raw.joins
      (λ k d lt. let of = is.joins k d lt in (bit_within bits (get_or raw.joins k d).left of.0, bit_within bits (get_or raw.joins k d).right of.1))

  to_touched : (m : ℕ) → Contains wires m → Contains (touched_of raw bits listed.spans) m
  to_touched m has = subst (λ l. Contains l m) listed.is has

  from_touched : (m : ℕ) → Contains (touched_of raw bits listed.spans) m → Contains wires m
  from_touched m has = subst (λ l. Contains l m) (sym listed.is) has

  -- a wire that is marked is used
  marked_used : (w : ℕ) → w < bits + 2 → get_or marks.used w false ≡ true → Used w
  marked_used w lt e =
      let found = (used.each w (let c = are.count in omega (arith, lt, c))).0 e in
      let within = touched_within raw is listed.spans found.0 (to_touched found.0 found.1) in
      let joined : AreJoined wiring.joins found.0 w = subst (AreJoined wiring.joins found.0) found.2 (are.each found.0 within).joined in
      elim (touched_touches raw library scan is sound listed.spans listed.are_spans found.0 (to_touched found.0 found.1)) [
        | inl drives ↦ inl (drives.0, record { at = found.0; drives = drives.1; joined = joined })
        | inr load ↦ inr (record { at = found.0; load = load; joined = joined })
      ]

  -- and one that is used, and the earliest of its net, is marked
  mark_of : (w m : ℕ) → w < bits + 2 → IsEarliest wiring.joins w w → AreJoined wiring.joins m w
      → (m < bits + 2 → Contains (touched_of raw bits listed.spans) m) → get_or marks.used w false ≡ true
  mark_of w m lt first joined has =
      let within = joined_within wiring.joins (bits + 2) all_within w m (joined_sym wiring.joins m w joined) lt in
      let le = (are.each m within).none_before w joined in
      let ge = first.none_before (get_or marks.earliest m 0) (joined_trans wiring.joins w m (get_or marks.earliest m 0)
      (joined_sym wiring.joins m w joined) (are.each m within).joined) in
      let same : get_or marks.earliest m 0 ≡ w = omega (arith, le, ge) in
      (used.each w (let c = are.count in omega (arith, lt, c))).1 (m, from_touched m (has within), same)

  used_marked : (w : ℕ) → w < bits + 2 → IsEarliest wiring.joins w w → Used w → get_or marks.used w false ≡ true
  used_marked w lt first (inl drives) =
      mark_of w drives.1.at lt first drives.1.joined
      (λ within. drives_touched raw library scan is sound listed.spans listed.are_spans drives.0 drives.1.at within drives.1.drives)
  used_marked w lt first (inr load) =
      mark_of w load.at lt first load.joined
      (λ within. load_touched raw library scan is sound listed.spans listed.are_spans load.at within load.load)

  known_net : (w : ℕ) → w < bits + 2 → is_known marks w ≡ true → IsNet wiring w
  known_net w lt e =
      let both = both_true (eqb (get_or marks.earliest w 0) w) (get_or marks.used w false) e in
      let own : get_or marks.earliest w 0 ≡ w = eqb-true (get_or marks.earliest w 0) w both.0 in
      record {
        earliest = subst (IsEarliest wiring.joins w) own (are.each w lt);
        used = marked_used w lt both.1;
      }

  net_known : (w : ℕ) → w < bits + 2 → IsNet wiring w → is_known marks w ≡ true
  net_known w lt net =
      let le = (are.each w lt).none_before w (Same refl) in
      let ge = net.earliest.none_before (get_or marks.earliest w 0) (are.each w lt).joined in
      let own : get_or marks.earliest w 0 ≡ w = omega (arith, le, ge) in
      rw (eq-eqb (get_or marks.earliest w 0) w own) (used_marked w lt net.earliest net.used)

  module _ (nets : List ℕ) (all : AreNets wiring nets) where
    -- the nets that are known by the first wires are the first
    abbrev Splits : ℕ → Type 0
    Splits w = (k v : ℕ) → slice_get nets k ≡ Some v → (v < w) ↔ (k < known_count marks w)

    -- the next net, where those before it are the first
    next_at : (w : ℕ) → Splits w → IsNet wiring w → slice_get nets (known_count marks w) ≡ Some w
    next_at w splits net = by has.0 (place_of nets w has)
      where
        has : Contains nets w
        has = (all.has w).1 net

        by : (k : ℕ) → slice_get nets k ≡ Some w → slice_get nets (known_count marks w) ≡ Some w
        by k at = elim (lt_trichotomy k (known_count marks w)) [
          | inl less ↦ absurd (let lt = (splits k w at).1 less in omega (arith, lt))
          | inr (inl same) ↦ subst (λ n. slice_get nets n ≡ Some w) same at
          | inr (inr more) ↦ absurd (
              let within = slice_get_within nets k w at in
              let first = slice_get-get_or nets (known_count marks w) 0 (omega (arith, more, within)) in
              let rises = all.ascending (known_count marks w) k 0 more within in
              let here = get_or_from_slice_get nets k w 0 at in
              let lt = (splits (known_count marks w) (get_or nets (known_count marks w) 0) first).0 (omega (arith, rises, here)) in
              omega (arith, lt))
        ]

    same_place : (j k v w : ℕ) → slice_get nets j ≡ Some v → slice_get nets k ≡ Some w → j ≡ k → v ≡ w
    same_place j k v w at there same = some_inj v w (sym at ∙ ap (slice_get nets) same ∙ there)

    same_net : (j k w : ℕ) → slice_get nets j ≡ Some w → slice_get nets k ≡ Some w → j ≡ k
    same_net j k w at there = elim (lt_trichotomy j k) [
      | inl less ↦ absurd (rising j k at there less)
      | inr (inl same) ↦ same
      | inr (inr more) ↦ absurd (rising k j there at more)
    ]
      where
        rising : (j k : ℕ) → slice_get nets j ≡ Some w → slice_get nets k ≡ Some w → j < k → ⊥
        rising j k at there less =
            let rises = all.ascending j k 0 less (slice_get_within nets k w there) in
            let one = get_or_from_slice_get nets j w 0 at in
            let two = get_or_from_slice_get nets k w 0 there in
            omega (arith, rises, one, two)

    split : (w : ℕ) → w ≤ bits + 2 → Splits w
    split zero le k v at = (λ lt. absurd (omega (arith, lt)), λ lt. absurd (omega (arith, lt)))
    split (suc w) le k v at = by (split w (omega (arith, le))) (is_known marks w) refl
      where
        Next : Bool → Type 0
        Next known = (v < suc w) ↔ (k < (if known then known_count marks w + 1 else known_count marks w))

        by : Splits w → (known : Bool) → is_known marks w ≡ known → Next known
        by before true known =
            let net = next_at w before (known_net w (omega (arith, le)) known) in (
              λ lt. elim (ℕ_discrete v w) [
                | yes same ↦ (let place = same_net k (known_count marks w) w (subst (λ n. slice_get nets k ≡ Some n) same at) net in omega (arith, place))
                | no other ↦ (let less = (before k v at).0 (omega (arith, lt, other)) in omega (arith, less))
              ],
              λ lt. elim (ℕ_discrete k (known_count marks w)) [
                | yes same ↦ (let wire = same_place k (known_count marks w) v w at net same in omega (arith, wire))
                | no other ↦ (let less = (before k v at).1 (omega (arith, lt, other)) in omega (arith, less))
              ],
            )
        by before false unknown = (
          λ lt. elim (ℕ_discrete v w) [
            | yes same ↦ absurd (true≢false (sym (net_known w (omega (arith, le))
                ((all.has w).0 (contained_at nets k w (subst (λ n. slice_get nets k ≡ Some n) same at)))) ∙ unknown))
            | no other ↦ (before k v at).0 (omega (arith, lt, other))
          ],
          λ lt. let less = (before k v at).1 lt in omega (arith, less),
        )

    pub nth_net : (net w : ℕ) → w < bits + 2 → IsNth marks net w → slice_get nets net ≡ Some w
    nth_net net w lt nth =
        subst (λ n. slice_get nets n ≡ Some w) nth.following (next_at w (split w (omega (arith, lt))) (known_net w lt nth.known))

    -- the nets that are known come first
    pub past_known : (net w : ℕ) → known_count marks (bits + 2) ≤ net → slice_get nets net ≡ Some w → bits + 2 ≤ w
    past_known net w past at = elim (dec_lt w (bits + 2)) [
      | yes less ↦ absurd (let known = (split (bits + 2) (omega arith) net w at).0 less in omega (arith, known, past))
      | no more ↦ omega (arith, more)
    ]

-- what the code finds is the wire of the net
pub is_found : (raw : RawNetlist) → IsNetlist raw → (marks : WireMarks) (wires : List ℕ) → (count : ℕ) → count ≡ bit_count raw.buses
    → IsTouched raw count wires → AreEarliest (joins_of count raw.joins) (count + 2) marks.earliest
    → AreMarks marks.earliest wires marks.used → (net : ℕ) (found : Option ℕ) → IsFoundAmong marks (count + 2) net found
    → IsFoundFor raw net found
is_found raw is marks wires count same listed are used net found among = by found (subst (λ n. IsFoundAmong marks (n + 2) net found) same among)
  where
    all_bits : IsTouched raw (bit_count raw.buses) wires
    all_bits = subst (λ n. IsTouched raw n wires) same listed

    earliest : AreEarliest (joins_of (bit_count raw.buses) raw.joins) (bit_count raw.buses + 2) marks.earliest
    earliest = subst (λ n. AreEarliest (joins_of n raw.joins) (n + 2) marks.earliest) same are

    by : (found : Option ℕ) → IsFoundAmong marks (bit_count raw.buses + 2) net found → IsFoundFor raw net found
    by None past = λ library scan sound nets wire all at.
        past_known raw library scan is sound marks wires all_bits earliest used nets all net wire past at
    by (Some w) (lt, nth) = (lt, λ library scan sound nets all. nth_net raw library scan is sound marks wires all_bits earliest used nets all net w lt nth)
