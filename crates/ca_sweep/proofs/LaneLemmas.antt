-- Lanes: masks of vectors, and the values of each lane.
use Rattle.std.proofs.Common.{◌≡◌, ◌≢◌, ℕ, zero, suc, ◌+◌, ◌-◌, ◌*◌, ◌^◌, ◌||◌, ◌<◌, ◌≤◌, Bool, true, false, List, length, refl, sym, ◌∙◌, ap, subst, arith, inl, inr}
use Rattle.std.proofs.Common.{slice_set, ◌==◌, ◌&&◌, ◌⊎◌}
use Rattle.std.specs.Prelude.{slice_index, not}
use Rattle.std.proofs.lemmas.Bool.{cases_eq, eq-eqb, eqb-true, eqb-false}
use Rattle.std.proofs.Math.Bool.{and-true}
use Rattle.std.proofs.Math.Nat.{two-pow-succ}
use Rattle.ca_planes.proofs.BitLemmas.{in_all}
use Rattle.std.proofs.lemmas.List.{get_or-set_same, get_or-set_other, length-set}
use Rattle.std.proofs.lemmas.List.{get_or-map, map-set, length-map}
use Rattle.ca_net.specs.declared.trit.Trit.{Trit}
use Rattle.ca_net.specs.declared.trit.Trit.TheVariants.{Zero, One, X}
use Rattle.ca_net.specs.State.{value_at}
use Rattle.ca_planes.specs.Plane.{has_lane, lane_at}
use Rattle.ca_net.specs.declared.wave.Wave.{Wave}
use Rattle.ca_flat.specs.Chip.{Chip, cell_at, inputs_at, outputs_at, net_of}
use Rattle.ca_flips.specs.Static.{EndsByLast}
use Rattle.ca_flips.specs.Flips.{vector_at}
use Rattle.ca_static.specs.LastTable.{IsLastTable, last_at}
use Rattle.ca_view.specs.NetLists.{ArePinNets}
use Rattle.ca_flat.specs.Codes.{bit_trit}
use Rattle.ca_places.specs.declared.place_set.PlaceSet.{PlaceSet}
use Rattle.ca_sweep.specs.declared.lane_values.LaneValues.{LaneValues}
use Rattle.ca_sweep.specs.Seen.{flipped_if}
use Rattle.ca_sweep.specs.code.Changes.{IsMarked, IsPut}
use Rattle.ca_sweep.specs.code.Lanes.{trits_in, values_in}
use Rattle.ca_sweep.proofs.ChangeLemmas.{put_new, put_same}
use Rattle.ca_sweep.proofs.NumberLemmas.{IsNumberTo, number_none, number_more_zero, number_more_one, number_below, number_all}
use Rattle.ca_sweep.specs.code.Lanes.{AreParted, AreMasksTo, digit_of_bit, number_to}

-- the masks from a place on are parted, and those before it aren't
pub record IsPartedFrom (one count from : ℕ) (old new : List ℕ) : Type 0 where
  pub room : length new ≡ length old
  pub kept : (k : ℕ) → k < from → slice_index new k ≡ slice_index old k
  pub without : (k lane : ℕ) → from ≤ k → k < count → lane_at new (2 * k) lane ≡ (lane_at old k lane && not (has_lane one lane))
  pub having : (k lane : ℕ) → from ≤ k → k < count → lane_at new (2 * k + 1) lane ≡ (lane_at old k lane && has_lane one lane)

pub parted_none : (one count : ℕ) (masks : List ℕ) → IsPartedFrom one count count masks masks
parted_none one count masks = record {
  room = refl;
  kept = λ k less. refl;
  without = λ k lane from less. absurd (omega arith);
  having = λ k lane from less. absurd (omega arith);
}

pub parted_more : (one count from to a b : ℕ) (old mid step new : List ℕ) → from ≡ to → from < count → 2 * count ≤ length old → IsPartedFrom one count (from + 1) old mid
    → ((lane : ℕ) → has_lane a lane ≡ (has_lane (slice_index mid from) lane && has_lane one lane))
    → ((lane : ℕ) → has_lane b lane ≡ (has_lane (slice_index mid from) lane && not (has_lane one lane)))
    → step ≡ slice_set mid (2 * from + 1) a → new ≡ slice_set step (2 * from) b → IsPartedFrom one count to old new
parted_more one count from to a b old mid step new to_is within room so_far having without step_is new_is = subst (λ n. IsPartedFrom one count n old new) to_is (record {
  room = ap length new_is ∙ length-set step (2 * from) b ∙ count_is ∙ so_far.room;
  kept = λ k less. at k (omega arith) (omega arith) ∙ so_far.kept k (omega arith);
  without = λ k lane low high. elim (cases_eq k from) [
    | inl e ↦ subst (λ (j : ℕ). lane_at new (2 * j) lane ≡ (lane_at old j lane && not (has_lane one lane))) (sym e)
        (ap (λ p. has_lane p lane) here_without ∙ without lane ∙ ap (λ p. has_lane p lane && not (has_lane one lane)) own)
    | inr apart ↦ ap (λ p. has_lane p lane) (at (2 * k) (omega arith) (omega arith)) ∙ so_far.without k lane (omega arith) high
  ];
  having = λ k lane low high. elim (cases_eq k from) [
    | inl e ↦ subst (λ (j : ℕ). lane_at new (2 * j + 1) lane ≡ (lane_at old j lane && has_lane one lane)) (sym e)
        (ap (λ p. has_lane p lane) here_having ∙ having lane ∙ ap (λ p. has_lane p lane && has_lane one lane) own)
    | inr apart ↦ ap (λ p. has_lane p lane) (at (2 * k + 1) (omega arith) (omega arith)) ∙ so_far.having k lane (omega arith) high
  ];
})
  where
    count_is : length step ≡ length mid
    count_is = ap length step_is ∙ length-set mid (2 * from + 1) a

    own : slice_index mid from ≡ slice_index old from
    own = so_far.kept from (omega arith)

    at : (j : ℕ) → j ≢ 2 * from → j ≢ 2 * from + 1 → slice_index new j ≡ slice_index mid j
    at j apart other = ap (λ list. slice_index list j) new_is ∙ get_or-set_other step (2 * from) j b 0 apart
        ∙ ap (λ list. slice_index list j) step_is ∙ get_or-set_other mid (2 * from + 1) j a 0 other

    here_without : slice_index new (2 * from) ≡ b
    here_without = ap (λ list. slice_index list (2 * from)) new_is ∙ get_or-set_same step (2 * from) b 0 (let m = so_far.room in let c = count_is in omega arith)

    here_having : slice_index new (2 * from + 1) ≡ a
    here_having = ap (λ list. slice_index list (2 * from + 1)) new_is ∙ get_or-set_other step (2 * from) (2 * from + 1) b 0 (λ e. omega arith)
        ∙ ap (λ list. slice_index list (2 * from + 1)) step_is ∙ get_or-set_same mid (2 * from + 1) a 0 (let m = so_far.room in omega arith)

pub parted_all : (one count : ℕ) (old new : List ℕ) → IsPartedFrom one count 0 old new → AreParted one count old new
parted_all one count old new is = record {
  room = is.room;
  without = λ k lane less. is.without k lane (omega arith) less;
  having = λ k lane less. is.having k lane (omega arith) less;
}

-- two tests that say the same
eqb_same : (a b c d : ℕ) → (a ≡ b → c ≡ d) → (c ≡ d → a ≡ b) → (a == b) ≡ (c == d)
eqb_same a b c d to from = go (a == b) (c == d) refl refl
  where
    go : (x y : Bool) → (a == b) ≡ x → (c == d) ≡ y → x ≡ y
    go true true one other = refl
    go false false one other = refl
    go true false one other = absurd (eqb-false c d other (to (eqb-true a b one)))
    go false true one other = absurd (eqb-false a b one (from (eqb-true c d other)))

eqb_none : (a b : ℕ) → (a ≡ b → ⊥) → (a == b) ≡ false
eqb_none a b none = go (a == b) refl
  where
    go : (x : Bool) → (a == b) ≡ x → x ≡ false
    go true is = absurd (none (eqb-true a b is))
    go false is = refl

and_false : (b : Bool) → (b && false) ≡ false
and_false true = refl
and_false false = refl

-- a number is even or odd
half : (k : ℕ) → ((j : ℕ) × (k ≡ 2 * j)) ⊎ ((j : ℕ) × (k ≡ 2 * j + 1))
half zero = inl (0, refl)
half (suc k) = elim (half k) [
  | inl even ↦ inr (even.0, (let e = even.1 in omega arith))
  | inr odd ↦ inl (odd.0 + 1, (let e = odd.1 in omega arith))
]

even_bit : (number j : ℕ) (bit : Bool) → ((number == j) && not bit) ≡ ((2 * number + digit_of_bit bit) == 2 * j)
even_bit number j true = and_false (number == j) ∙ sym (eqb_none (2 * number + 1) (2 * j) (λ e. omega arith))
even_bit number j false = and-true (number == j) ∙ eqb_same number j (2 * number + 0) (2 * j) (λ e. omega arith) (λ e. omega arith)

odd_bit : (number j : ℕ) (bit : Bool) → ((number == j) && bit) ≡ ((2 * number + digit_of_bit bit) == 2 * j + 1)
odd_bit number j true = and-true (number == j) ∙ eqb_same number j (2 * number + 1) (2 * j + 1) (λ e. omega arith) (λ e. omega arith)
odd_bit number j false = and_false (number == j) ∙ sym (eqb_none (2 * number + 0) (2 * j + 1) (λ e. omega arith))

-- before the first pin all lanes have the number 0
pub masks_none : (bits : ℕ → Bool) (masks : List ℕ) (lane : ℕ) → lane < 64 → slice_index masks 0 ≡ 2 ^ 64 - 1 → AreMasksTo bits 0 masks lane
masks_none bits masks lane within is zero less = ap (λ p. has_lane p lane) is ∙ in_all lane within
masks_none bits masks lane within is (suc k) less = absurd (omega arith)

-- one more pin
pub masks_more : (bits : ℕ → Bool) (pin one count : ℕ) (mid new : List ℕ) (lane : ℕ) → count ≡ 2 ^ pin → bits pin ≡ has_lane one lane
    → AreMasksTo bits pin mid lane → AreParted one count mid new → AreMasksTo bits (suc pin) new lane
masks_more bits pin one count mid new lane count_is bit_is masks parted k less =
    let twice : 2 ^ suc pin ≡ 2 ^ pin + 2 ^ pin = two-pow-succ pin in
    elim (half k) [
      | inl even ↦
          let j = even.0 in
          let low : even.0 < count = let e = even.1 in omega (arith, count_is, twice) in
          ap (λ n. lane_at new n lane) even.1 ∙ parted.without even.0 lane low
          ∙ ap (λ b. b && not (has_lane one lane)) (masks even.0 (subst (λ n. even.0 < n) count_is low))
          ∙ ap (λ b. (number_to bits pin == even.0) && not b) (sym bit_is)
          ∙ even_bit (number_to bits pin) even.0 (bits pin) ∙ ap (λ n. number_to bits (suc pin) == n) (sym even.1)
      | inr odd ↦
          let low : odd.0 < count = let e = odd.1 in omega (arith, count_is, twice) in
          ap (λ n. lane_at new n lane) odd.1 ∙ parted.having odd.0 lane low
          ∙ ap (λ b. b && has_lane one lane) (masks odd.0 (subst (λ n. odd.0 < n) count_is low))
          ∙ ap (λ b. (number_to bits pin == odd.0) && b) (sym bit_is)
          ∙ odd_bit (number_to bits pin) odd.0 (bits pin) ∙ ap (λ n. number_to bits (suc pin) == n) (sym odd.1)
    ]

or_false : (a b : Bool) → (a || b) ≡ false → (a ≡ false) × (b ≡ false)
or_false true b is = let e : true ≡ false = is in absurd cc
or_false false b is = (refl, is)

or_true : (a b : Bool) → (a || b) ≡ true → (a ≡ true) ⊎ (b ≡ true)
or_true true b is = inl refl
or_true false b is = inr is

and_true : (a b : Bool) → (a && b) ≡ true → (a ≡ true) × (b ≡ true)
and_true true b is = (refl, is)
and_true false b is = let e : false ≡ true = is in absurd cc

not_and : (a b : Bool) → (a && b) ≡ false → b ≡ true → a ≡ true → ⊥
not_and true true is one other = let e : true ≡ false = is in absurd cc
not_and true false is one other = let e : false ≡ true = one in absurd cc
not_and false b is one other = let e : false ≡ true = other in absurd cc

-- the lanes of one more row
pub given_true : (number row : ℕ) (is found mask : Bool) (Ends : ℕ → Type 0) → (is ≡ true → Ends row) → mask ≡ (number == row) → (found ≡ true → Ends number)
    → (found || (is && mask)) ≡ true → Ends number
given_true number row is found mask Ends one mask_is so_far given = elim (or_true found (is && mask) given) [
  | inl before ↦ so_far before
  | inr here ↦
      let both = and_true is mask here in
      subst Ends (sym (eqb-true number row (sym mask_is ∙ both.1))) (one both.0)
]

pub given_false : (number row : ℕ) (is found mask : Bool) (Ends : ℕ → Type 0) → (Ends row → is ≡ true) → mask ≡ (number == row)
    → (found ≡ false → number < row → Ends number → ⊥) → (found || (is && mask)) ≡ false → number < row + 1 → Ends number → ⊥
given_false number row is found mask Ends one mask_is so_far given below ends = elim (cases_eq number row) [
  | inl e ↦ not_and is mask (or_false found (is && mask) given).1 (mask_is ∙ eq-eqb number row e) (one (subst Ends e ends))
  | inr apart ↦ so_far (or_false found (is && mask) given).0 (omega arith) ends
]

-- the value of a net in a lane
pub trit_here : (ones : List ℕ) (lane net : ℕ) → net < length ones → value_at (trits_in ones lane) net ≡ bit_trit (has_lane (slice_index ones net) lane)
trit_here ones lane net within = get_or-map (λ (plane : ℕ). bit_trit (has_lane plane lane)) ones net 0 X within

pub trits_count : (ones : List ℕ) (lane : ℕ) → length (trits_in ones lane) ≡ length ones
trits_count ones lane = length-map ones (λ (plane : ℕ). bit_trit (has_lane plane lane))

pub trits_set : (ones : List ℕ) (lane net plane : ℕ) → trits_in (slice_set ones net plane) lane ≡ slice_set (trits_in ones lane) net (bit_trit (has_lane plane lane))
trits_set ones lane net plane = map-set (λ (p : ℕ). bit_trit (has_lane p lane)) ones net plane

-- the values of a net are given in all lanes
pub put_lanes : (chip : Chip) (place_of : ℕ → ℕ) (net plane : ℕ) (ones new_ones : List ℕ) (due new_due : PlaceSet) → net < length ones
    → new_ones ≡ slice_set ones net plane → IsMarked chip place_of net due new_due
    → (lane : ℕ) → IsPut chip place_of net (bit_trit (has_lane plane lane)) (record { values = trits_in ones lane; due = due }) (record { values = trits_in new_ones lane; due = new_due })
put_lanes chip place_of net plane ones new_ones due new_due within is marked lane =
    put_new chip place_of net (bit_trit (has_lane plane lane)) (record { values = trits_in ones lane; due = due }) (record { values = trits_in new_ones lane; due = new_due })
    (subst (λ n. net < n) (sym (trits_count ones lane)) within)
    (ap (λ list. trits_in list lane) is ∙ trits_set ones lane net plane) marked

pub put_lanes_same : (chip : Chip) (place_of : ℕ → ℕ) (net plane : ℕ) (values : LaneValues) → net < length values.ones.items
    → slice_index values.ones.items net ≡ plane → (lane : ℕ) → IsPut chip place_of net (bit_trit (has_lane plane lane)) (values_in values lane) (values_in values lane)
put_lanes_same chip place_of net plane values within is lane =
    put_same chip place_of net (bit_trit (has_lane plane lane)) (values_in values lane)
    (trit_here values.ones.items lane net within ∙ ap (λ p. bit_trit (has_lane p lane)) is)

-- the number of the bits is that of the values
pub numbered : (value : ℕ → Trit) (bits : ℕ → Bool) (count : ℕ) → ((pin : ℕ) → pin < count → value pin ≡ bit_trit (bits pin)) → IsNumberTo value count (number_to bits count)
numbered value bits zero same = number_none value
numbered value bits (suc count) same =
    let so_far = numbered value bits count (λ pin less. same pin (omega arith)) in
    subst (λ n. IsNumberTo value n (number_to bits (suc count))) (let e : count + 1 ≡ suc count = omega arith in e)
    (by_bit (bits count) refl so_far (same count (omega arith)))
  where
    by_bit : (bit : Bool) → bits count ≡ bit → IsNumberTo value count (number_to bits count) → value count ≡ bit_trit (bits count)
        → IsNumberTo value (count + 1) (2 * number_to bits count + digit_of_bit (bits count))
    by_bit true is so_far at = number_more_one value count (number_to bits count) _ so_far (at ∙ ap bit_trit is) (ap (λ b. 2 * number_to bits count + digit_of_bit b) is)
    by_bit false is so_far at = number_more_zero value count (number_to bits count) _ so_far (at ∙ ap bit_trit is)
        (ap (λ b. 2 * number_to bits count + digit_of_bit b) is ∙ (let e : 2 * number_to bits count + 0 ≡ number_to bits count * 2 = omega arith in e))

-- a bit that is set just where a definite value is 1
pub bit_given : (bit : Bool) (value : Trit) → (bit ≡ true → value ≡ One) → (bit ≡ false → value ≡ One → ⊥) → value ≢ X → bit_trit bit ≡ value
bit_given true value one other definite = sym (one refl)
bit_given false Zero one other definite = refl
bit_given false One one other definite = absurd (other refl refl)
bit_given false X one other definite = absurd (definite refl)

pub flipped_bit : (plane flip result : Bool) → result ≡ ((plane && not flip) || (flip && not plane)) → bit_trit result ≡ flipped_if flip (bit_trit plane)
flipped_bit true true result is = ap bit_trit is
flipped_bit true false result is = ap bit_trit is
flipped_bit false true result is = ap bit_trit is
flipped_bit false false result is = ap bit_trit is

-- the number of an instance's vector in a lane
module _ (chip : Chip) (w : ℕ) (ones nets : List ℕ) (pins : ArePinNets chip w 0 (inputs_at chip w) nets)
    (within : (pin : ℕ) → pin < inputs_at chip w → net_of chip w pin < length ones) (lane : ℕ) where
  abbrev number_there : ℕ
  number_there = number_to (λ pin. lane_at ones (slice_index nets pin) lane) (inputs_at chip w)

  numbered_there : IsNumberTo (λ pin. value_at (trits_in ones lane) (net_of chip w pin)) (inputs_at chip w) number_there
  numbered_there = numbered (λ pin. value_at (trits_in ones lane) (net_of chip w pin)) (λ pin. lane_at ones (slice_index nets pin) lane) (inputs_at chip w)
      (λ pin less. trit_here ones lane (net_of chip w pin) (within pin less)
      ∙ ap (λ net. bit_trit (lane_at ones net lane)) (sym (pins.each pin less ∙ ap (net_of chip w) (let e : 0 + pin ≡ pin = omega arith in e))))

  pub below_there : number_there < 2 ^ inputs_at chip w
  below_there = number_below (λ pin. value_at (trits_in ones lane) (net_of chip w pin)) (inputs_at chip w) number_there numbered_there

  pub ends_there : (table : List (List Wave)) (output : ℕ) → IsLastTable (cell_at chip w) table → output < outputs_at chip w
      → EndsByLast (cell_at chip w) (vector_at chip w (value_at (trits_in ones lane))) output (last_at table number_there output)
  ends_there table output is less = subst (λ v. EndsByLast (cell_at chip w) v output (last_at table number_there output))
      (number_all (λ pin. value_at (trits_in ones lane) (net_of chip w pin)) (inputs_at chip w) number_there numbered_there).vector_is
      (is.each number_there output below_there less)

-- masks of planes and nets that are the same
pub masks_same : (ones same nets same_nets masks same_masks : List ℕ) (inputs lane : ℕ) → same ≡ ones → same_nets ≡ nets → same_masks ≡ masks → length nets ≡ inputs
    → AreMasksTo (λ pin. lane_at same (slice_index same_nets pin) lane) (length same_nets) masks lane
    → AreMasksTo (λ pin. lane_at ones (slice_index nets pin) lane) inputs same_masks lane
masks_same ones same nets same_nets masks same_masks inputs lane ones_are nets_are masks_are count is =
    subst (λ list. AreMasksTo (λ pin. lane_at ones (slice_index nets pin) lane) inputs list lane) (sym masks_are)
    (subst (λ n. AreMasksTo (λ pin. lane_at ones (slice_index nets pin) lane) n masks lane) count
    (subst (λ list. AreMasksTo (λ pin. lane_at ones (slice_index list pin) lane) (length list) masks lane) nets_are
    (subst (λ list. AreMasksTo (λ pin. lane_at list (slice_index same_nets pin) lane) (length same_nets) masks lane) ones_are is)))

pub small_powers : (count : ℕ) → count ≤ 6 → 2 ^ count ≤ 64
small_powers zero few = omega arith
small_powers (suc zero) few = omega arith
small_powers (suc (suc zero)) few = omega arith
small_powers (suc (suc (suc zero))) few = omega arith
small_powers (suc (suc (suc (suc zero)))) few = omega arith
small_powers (suc (suc (suc (suc (suc zero))))) few = omega arith
small_powers (suc (suc (suc (suc (suc (suc zero)))))) few = omega arith
small_powers (suc (suc (suc (suc (suc (suc (suc more))))))) few = absurd (omega arith)
