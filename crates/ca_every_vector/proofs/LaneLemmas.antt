-- Lanes of planes, and the masks of an instance's vectors.
use Rattle.std.proofs.Common.{◌≡◌, ◌≢◌, ℕ, zero, suc, ◌+◌, ◌-◌, ◌*◌, ◌||◌, ◌<◌, ◌≤◌, ◌⊎◌, Bool, true, false, List, length, refl, sym, ◌∙◌, ap, subst, arith, inl, inr, slice_set, ◌&&◌}
use Rattle.std.specs.Prelude.{slice_index}
use Rattle.std.proofs.lemmas.Bool.{cases_eq}
use Rattle.std.proofs.lemmas.List.{get_or-set_same, get_or-set_other, length-set}
use Rattle.ca_net.specs.declared.trit.Trit.{Trit}
use Rattle.ca_net.specs.declared.trit.Trit.TheVariants.{Zero, One}
use Rattle.ca_planes.specs.Plane.{has_lane, lane_at}
use Rattle.ca_sweep.proofs.NumberLemmas.{IsNumberTo, number_more_zero, number_more_one}
use Rattle.ca_every_vector.specs.code.Lanes.{AreHalved}

pub both_true : (a b : Bool) → (a && b) ≡ true → (a ≡ true) × (b ≡ true)
both_true true b is = (refl, is)
both_true false b is = let e : false ≡ true = is in absurd cc

pub one_true : (a b : Bool) → (a || b) ≡ true → (a ≡ true) ⊎ (b ≡ true)
one_true true b is = inl refl
one_true false b is = inr is

pub is_both : (a b : Bool) → a ≡ true → b ≡ true → (a && b) ≡ true
is_both true b one other = other
is_both false b one other = let e : false ≡ true = one in absurd cc

pub is_either_first : (a b : Bool) → a ≡ true → (a || b) ≡ true
is_either_first true b one = refl
is_either_first false b one = let e : false ≡ true = one in absurd cc

pub is_either_second : (a b : Bool) → b ≡ true → (a || b) ≡ true
is_either_second true b other = refl
is_either_second false b other = other

-- the masks from a place on are halved, and those before it aren't
pub record AreHalvedFrom (lo hi count from : ℕ) (old new : List ℕ) : Type 0 where
  pub room : length new ≡ length old
  pub kept : (k : ℕ) → k < from → slice_index new k ≡ slice_index old k
  pub low : (k lane : ℕ) → from ≤ k → k < count → lane_at new (2 * k) lane ≡ (lane_at old k lane && has_lane lo lane)
  pub high : (k lane : ℕ) → from ≤ k → k < count → lane_at new (2 * k + 1) lane ≡ (lane_at old k lane && has_lane hi lane)

pub halved_none : (lo hi count : ℕ) (masks : List ℕ) → AreHalvedFrom lo hi count count masks masks
halved_none lo hi count masks = record {
  room = refl;
  kept = λ k less. refl;
  low = λ k lane from less. absurd (omega arith);
  high = λ k lane from less. absurd (omega arith);
}

pub halved_more : (lo hi count from to a b : ℕ) (old mid step new : List ℕ) → from ≡ to → from < count → 2 * count ≤ length old → AreHalvedFrom lo hi count (from + 1) old mid
    → ((lane : ℕ) → has_lane a lane ≡ (has_lane (slice_index mid from) lane && has_lane hi lane))
    → ((lane : ℕ) → has_lane b lane ≡ (has_lane (slice_index mid from) lane && has_lane lo lane))
    → step ≡ slice_set mid (2 * from + 1) a → new ≡ slice_set step (2 * from) b → AreHalvedFrom lo hi count to old new
halved_more lo hi count from to a b old mid step new to_is within room so_far high low step_is new_is = subst (λ n. AreHalvedFrom lo hi count n old new) to_is (record {
  room = ap length new_is ∙ length-set step (2 * from) b ∙ count_is ∙ so_far.room;
  kept = λ k less. at k (omega arith) (omega arith) ∙ so_far.kept k (omega arith);
  low = λ k lane past less. elim (cases_eq k from) [
    | inl e ↦ subst (λ (j : ℕ). lane_at new (2 * j) lane ≡ (lane_at old j lane && has_lane lo lane)) (sym e)
        (ap (λ p. has_lane p lane) here_low ∙ low lane ∙ ap (λ p. has_lane p lane && has_lane lo lane) own)
    | inr apart ↦ ap (λ p. has_lane p lane) (at (2 * k) (omega arith) (omega arith)) ∙ so_far.low k lane (omega arith) less
  ];
  high = λ k lane past less. elim (cases_eq k from) [
    | inl e ↦ subst (λ (j : ℕ). lane_at new (2 * j + 1) lane ≡ (lane_at old j lane && has_lane hi lane)) (sym e)
        (ap (λ p. has_lane p lane) here_high ∙ high lane ∙ ap (λ p. has_lane p lane && has_lane hi lane) own)
    | inr apart ↦ ap (λ p. has_lane p lane) (at (2 * k + 1) (omega arith) (omega arith)) ∙ so_far.high k lane (omega arith) less
  ];
})
  where
    count_is : length step ≡ length mid
    count_is = ap length step_is ∙ length-set mid (2 * from + 1) a

    own : slice_index mid from ≡ slice_index old from
    own = so_far.kept from (omega arith)

    at : (j : ℕ) → j ≢ 2 * from → j ≢ 2 * from + 1 → slice_index new j ≡ slice_index mid j
    at j apart other = ap (λ list. slice_index list j) new_is ∙ get_or-set_other step (2 * from) j b 0 apart
        ∙ ap (λ list. slice_index list j) step_is ∙ get_or-set_other mid (2 * from + 1) j a 0 other

    here_low : slice_index new (2 * from) ≡ b
    here_low = ap (λ list. slice_index list (2 * from)) new_is ∙ get_or-set_same step (2 * from) b 0 (let m = so_far.room in let c = count_is in omega arith)

    here_high : slice_index new (2 * from + 1) ≡ a
    here_high = ap (λ list. slice_index list (2 * from + 1)) new_is ∙ get_or-set_other step (2 * from) (2 * from + 1) b 0 (λ e. omega arith)
        ∙ ap (λ list. slice_index list (2 * from + 1)) step_is ∙ get_or-set_same mid (2 * from + 1) a 0 (let m = so_far.room in omega arith)

pub halved_all : (lo hi count : ℕ) (old new : List ℕ) → AreHalvedFrom lo hi count 0 old new → AreHalved lo hi count old new
halved_all lo hi count old new is = record {
  room = is.room;
  low = λ k lane less. is.low k lane (omega arith) less;
  high = λ k lane less. is.high k lane (omega arith) less;
}

-- a number is even or odd
half : (k : ℕ) → ((j : ℕ) × (k ≡ 2 * j)) ⊎ ((j : ℕ) × (k ≡ 2 * j + 1))
half zero = inl (0, refl)
half (suc k) = elim (half k) [
  | inl even ↦ inr (even.0, (let e = even.1 in omega arith))
  | inr odd ↦ inl (odd.0 + 1, (let e = odd.1 in omega arith))
]

-- the lanes of each of the first masks have the number at the first pins
abbrev pub AreMasksOf : (ℕ → ℕ → Trit) → ℕ → ℕ → List ℕ → Type 0
AreMasksOf value pin count masks =
    (k lane : ℕ) → k < count → lane < 64 → lane_at masks k lane ≡ true → IsNumberTo (value lane) pin k

-- hi more pin
pub masks_of_more : (value : ℕ → ℕ → Trit) (pin lo hi count : ℕ) (mid new : List ℕ)
    → ((lane : ℕ) → lane < 64 → has_lane lo lane ≡ true → value lane pin ≡ Zero) → ((lane : ℕ) → lane < 64 → has_lane hi lane ≡ true → value lane pin ≡ One)
    → AreMasksOf value pin count mid → AreHalved lo hi count mid new → AreMasksOf value (pin + 1) (count * 2) new
masks_of_more value pin lo hi count mid new zeros ones masks halved k lane less low has = elim (half k) [
  | inl even ↦
      let j_low : even.0 < count = let e = even.1 in omega arith in
      let parts = both_true (lane_at mid even.0 lane) (has_lane lo lane) (sym (halved.low even.0 lane j_low) ∙ ap (λ n. lane_at new n lane) (sym even.1) ∙ has) in
      number_more_zero (value lane) pin even.0 k (masks even.0 lane j_low low parts.0) (zeros lane low parts.1) (let e = even.1 in omega arith)
  | inr odd ↦
      let j_low : odd.0 < count = let e = odd.1 in omega arith in
      let parts = both_true (lane_at mid odd.0 lane) (has_lane hi lane) (sym (halved.high odd.0 lane j_low) ∙ ap (λ n. lane_at new n lane) (sym odd.1) ∙ has) in
      number_more_one (value lane) pin odd.0 k (masks odd.0 lane j_low low parts.0) (ones lane low parts.1) odd.1
]

pub true_or_false : (b : Bool) → (b ≡ true) ⊎ (b ≡ false)
true_or_false true = inl refl
true_or_false false = inr refl
