-- Parents of nets and their groups: how a change of a parent changes the groups.
use Rattle.std.proofs.Common.{◌≡◌, ℕ, zero, suc, ◌+◌, ◌<◌, ◌≤◌, ◌==◌, ◌⊎◌, inl, inr, List, Bool, true, false, [], ◌∷◌, ◌++◌}
use Rattle.std.proofs.Common.{map, length, get_or, refl, sym, ◌∙◌, ap, subst, arith, cond}
use Rattle.std.specs.Prelude.{Option, Some, slice_get, slice_set, option_map, unwrap_or, min, max}
use Rattle.std.specs.List.{range_with_len}
use Rattle.std.proofs.lemmas.Bool.Decides.{Decides-eqb}
use Rattle.std.proofs.lemmas.Bool.{cases_eq}
use Rattle.std.proofs.lemmas.List.{length-map}
use Rattle.std.proofs.lemmas.Option.{slice_get-map, same_Some, slice_get_read, slice_get_within, slice_get-get_or}
use Rattle.ca_pin_sets.specs.Groups.{alone, united, group_of}
use Rattle.ca_pin_sets.specs.code.Forest.{IsForest, Realizes}

-- what stands at a place that was set, and at another
pub at_set : {X : Type 0} (xs : List X) (i : ℕ) (a : X) → i < length xs → slice_get (slice_set xs i a) i ≡ Some a
at_set [] i a within = absurd (omega (arith, within))
at_set (x ∷ xs) zero a within = refl
at_set (x ∷ xs) (suc i) a within = at_set xs i a (omega (arith, within))

pub at_other : {X : Type 0} (xs : List X) (i j : ℕ) (a : X) → (j ≡ i → ⊥) → slice_get (slice_set xs i a) j ≡ slice_get xs j
at_other [] i j a apart = refl
at_other (x ∷ xs) zero zero a apart = absurd (apart refl)
at_other (x ∷ xs) zero (suc j) a apart = refl
at_other (x ∷ xs) (suc i) zero a apart = refl
at_other (x ∷ xs) (suc i) (suc j) a apart = at_other xs i j a (λ same. apart (ap suc same))

pub length-set : {X : Type 0} (xs : List X) (i : ℕ) (a : X) → length (slice_set xs i a) ≡ length xs
length-set [] i a = refl
length-set (x ∷ xs) zero a = refl
length-set (x ∷ xs) (suc i) a = ap suc (length-set xs i a)

-- two numbers are the same or not
same_or_not : (a b : ℕ) → (a ≡ b) ⊎ (a ≡ b → ⊥)
same_or_not a b = by (a == b) refl
  where
    by : (same : Bool) → (a == b) ≡ same → (a ≡ b) ⊎ (a ≡ b → ⊥)
    by true is = inl ((Decides-eqb a b).0 is)
    by false is = inr (λ same. let passes : (a == b) ≡ true = (Decides-eqb a b).1 same in cc)

-- a number of a range is where it stands
pub range_at : (from count k n : ℕ) → slice_get (range_with_len from count) k ≡ Some n → n ≡ from + k
range_at from zero k n there = absurd cc
range_at from (suc count) zero n there = let same = same_Some from n there in omega (arith, same)
range_at from (suc count) (suc k) n there = let same = range_at (from + 1) count k n there in omega (arith, same)

-- nets that are alone
pub alone_forest : (nets : ℕ) → IsForest (alone nets)
alone_forest nets k parent there = let same = range_at 0 nets k parent there in omega (arith, same)

pub alone_realizes : (nets : ℕ) → Realizes (alone nets) (alone nets)
alone_realizes nets = record {
  count = refl;
  same = λ k parent there.
      let same : parent ≡ k = let is = range_at 0 nets k parent there in omega (arith, is) in
      ap (slice_get (alone nets)) same;
  root = λ k there. there;
}

-- a lower parent leaves a forest
pub forest_set : (parents : List ℕ) (k lower : ℕ) → IsForest parents → k < length parents → lower ≤ k → IsForest (slice_set parents k lower)
forest_set parents k lower forest within below j parent there = elim (same_or_not j k) [
  | inl same ↦
      let found : Some lower ≡ Some parent = sym (at_set parents k lower within) ∙ ap (slice_get (slice_set parents k lower)) (sym same) ∙ there in
      let is = same_Some lower parent found in
      omega (arith, is, same, below)
  | inr apart ↦ forest j parent (sym (at_other parents k j lower apart) ∙ there)
]

-- a net whose parent becomes another net of its group: the groups stay
pub realizes_set : (parents groups : List ℕ) (k lower : ℕ) → Realizes parents groups → k < length parents → slice_get groups lower ≡ slice_get groups k
    → (lower ≡ k → slice_get groups k ≡ Some k) → Realizes (slice_set parents k lower) groups
realizes_set parents groups k lower it within together at_root = record {
  count = it.count ∙ sym (length-set parents k lower);
  same = λ j parent there.
      elim (same_or_not j k) [
        | inl same ↦
            let found : Some lower ≡ Some parent = sym (at_set parents k lower within) ∙ ap (slice_get (slice_set parents k lower)) (sym same) ∙ there in
            ap (slice_get groups) (sym (same_Some lower parent found)) ∙ together ∙ ap (slice_get groups) (sym same)
        | inr apart ↦ it.same j parent (sym (at_other parents k j lower apart) ∙ there)
      ];
  root = λ j there.
      elim (same_or_not j k) [
        | inl same ↦
            let found : Some lower ≡ Some j = sym (at_set parents k lower within) ∙ ap (slice_get (slice_set parents k lower)) (sym same) ∙ there in
            let is : lower ≡ k = same_Some lower j found ∙ same in
            ap (slice_get groups) same ∙ at_root is ∙ ap (λ (n : ℕ). Some n) (sym same)
        | inr apart ↦ it.root j (sym (at_other parents k j lower apart) ∙ there)
      ];
}

-- a net whose parent becomes the parent of its parent
pub halved : (parents groups : List ℕ) (at parent above : ℕ) → IsForest parents → Realizes parents groups → slice_get parents at ≡ Some parent
    → slice_get parents parent ≡ Some above → at < length parents → Realizes (slice_set parents at above) groups
halved parents groups at parent above forest it first second within =
    let below = forest at parent first in
    let lower = forest parent above second in
    realizes_set parents groups at above it within (it.same parent above second ∙ it.same at parent first)
    (λ same.
    let is : parent ≡ at = omega (arith, below, lower, same) in
    it.root at (first ∙ ap (λ (n : ℕ). Some n) is))

-- what was read at a place stands there
pub read_at : (xs : List ℕ) (i x : ℕ) → i < length xs → x ≡ get_or xs i x → slice_get xs i ≡ Some x
read_at xs i x within is = slice_get_read xs (length xs) i x refl within is

-- one step up: the parents are those of the groups of before, and the place is in the net's group
abbrev pub IsFoundTo : List ℕ → List ℕ → ℕ → ℕ → Type 0
IsFoundTo start parents net at =
    IsForest parents × (length parents ≡ length start) × (at < length parents)
    × ((groups : List ℕ) → Realizes start groups → Realizes parents groups × (slice_get groups at ≡ slice_get groups net))

pub found_step : (start parents : List ℕ) (net at parent above : ℕ) → IsFoundTo start parents net at → slice_get parents at ≡ Some parent
    → slice_get parents parent ≡ Some above → IsFoundTo start (slice_set parents at above) net above
found_step start parents net at parent above (forest, count, within, kept) first second =
    let below : parent ≤ at = forest at parent first in
    let lower : above ≤ parent = forest parent above second in
    let length_is : length (slice_set parents at above) ≡ length parents = length-set parents at above in (
      forest_set parents at above forest within (omega (arith, below, lower)),
      length_is ∙ count,
      (let place : above < length parents = omega (arith, below, lower, within) in subst (λ (n : ℕ). above < n) (sym length_is) place),
      λ groups it.
          let old = kept groups it in
          (halved parents groups at parent above forest old.0 first second within, old.0.same parent above second ∙ old.0.same at parent first ∙ old.1),
    )

-- the group of a net whose parent is itself is the net
pub group_at_root : (parents groups : List ℕ) (net at : ℕ) → Realizes parents groups → slice_get groups at ≡ slice_get groups net → slice_get parents at ≡ Some at
    → group_of groups net ≡ at
group_at_root parents groups net at it together here =
    ap (λ (found : Option ℕ). unwrap_or found net) (sym together ∙ it.root at here)

-- where the parent of one group's lowest net becomes that of another, the groups are one
abbrev merged : ℕ → ℕ → List ℕ → List ℕ
merged high low groups = map (λ group. cond (group == high) low group) groups

merged_at : (groups : List ℕ) (high low k group : ℕ) → slice_get groups k ≡ Some group → slice_get (merged high low groups) k ≡ Some (cond (group == high) low group)
merged_at groups high low k group there =
    slice_get-map (λ (g : ℕ). cond (g == high) low g) groups k ∙ ap (option_map (λ (g : ℕ). cond (g == high) low g)) there

chosen_same : (high low : ℕ) → cond (high == high) low high ≡ low
chosen_same high low = ap (λ (b : Bool). cond b low high) ((Decides-eqb high high).1 refl)

chosen_other : (high low k : ℕ) → (k ≡ high → ⊥) → cond (k == high) low k ≡ k
chosen_other high low k apart = by (k == high) refl
  where
    by : (b : Bool) → (k == high) ≡ b → cond b low k ≡ k
    by true is = absurd (apart ((Decides-eqb k high).0 is))
    by false is = refl

chosen_low : (high low : ℕ) → cond (low == high) low low ≡ low
chosen_low high low = by (low == high)
  where
    by : (b : Bool) → cond b low low ≡ low
    by true = refl
    by false = refl

pub merged_realizes : (parents groups : List ℕ) (high low : ℕ) → Realizes parents groups → slice_get parents low ≡ Some low → slice_get parents high ≡ Some high
    → high < length parents → Realizes (slice_set parents high low) (merged high low groups)
merged_realizes parents groups high low it low_root high_root within =
    let low_is : slice_get (merged high low groups) low ≡ Some low =
    merged_at groups high low low low (it.root low low_root) ∙ ap (λ (n : ℕ). Some n) (chosen_low high low) in
    let high_is : slice_get (merged high low groups) high ≡ Some low =
    merged_at groups high low high high (it.root high high_root) ∙ ap (λ (n : ℕ). Some n) (chosen_same high low) in
    record {
      count = length-map groups (λ (g : ℕ). cond (g == high) low g) ∙ it.count ∙ sym (length-set parents high low);
      same = λ k parent there.
          elim (same_or_not k high) [
            | inl same ↦
                let found : Some low ≡ Some parent = sym (at_set parents high low within) ∙ ap (slice_get (slice_set parents high low)) (sym same) ∙ there in
                ap (slice_get (merged high low groups)) (sym (same_Some low parent found)) ∙ low_is ∙ sym high_is
                ∙ ap (slice_get (merged high low groups)) (sym same)
            | inr apart ↦
                slice_get-map (λ (g : ℕ). cond (g == high) low g) groups parent
                ∙ ap (option_map (λ (g : ℕ). cond (g == high) low g)) (it.same k parent (sym (at_other parents high k low apart) ∙ there))
                ∙ sym (slice_get-map (λ (g : ℕ). cond (g == high) low g) groups k)
          ];
      root = λ k there.
          elim (same_or_not k high) [
            | inl same ↦
                let found : Some low ≡ Some k = sym (at_set parents high low within) ∙ ap (slice_get (slice_set parents high low)) (sym same) ∙ there in
                ap (slice_get (merged high low groups)) same ∙ high_is ∙ found
            | inr apart ↦
                merged_at groups high low k k (it.root k (sym (at_other parents high k low apart) ∙ there))
                ∙ ap (λ (n : ℕ). Some n) (chosen_other high low k apart)
          ];
    }

-- the groups of two nets become one
pub united_lower : (parents groups : List ℕ) (first second : ℕ) → first < second → Realizes parents groups → slice_get parents first ≡ Some first
    → slice_get parents second ≡ Some second → second < length parents → Realizes (slice_set parents second first) (united first second groups)
united_lower parents groups first second lower it first_root second_root within =
    let high : max first second ≡ second = omega (arith, lower) in
    let low : min first second ≡ first = omega (arith, lower) in
    subst (λ (n : ℕ). Realizes (slice_set parents second first) (merged n (min first second) groups)) (sym high)
    (subst (λ (n : ℕ). Realizes (slice_set parents second first) (merged second n groups)) (sym low)
    (merged_realizes parents groups second first it first_root second_root within))

pub united_higher : (parents groups : List ℕ) (first second : ℕ) → second ≤ first → Realizes parents groups → slice_get parents first ≡ Some first
    → slice_get parents second ≡ Some second → first < length parents → Realizes (slice_set parents first second) (united first second groups)
united_higher parents groups first second lower it first_root second_root within =
    let high : max first second ≡ first = omega (arith, lower) in
    let low : min first second ≡ second = omega (arith, lower) in
    subst (λ (n : ℕ). Realizes (slice_set parents first second) (merged n (min first second) groups)) (sym high)
    (subst (λ (n : ℕ). Realizes (slice_set parents first second) (merged first n groups)) (sym low)
    (merged_realizes parents groups first second it second_root first_root within))

-- a net's group is no higher than the net, so a net that is its group has itself as its parent
group_low : (parents groups : List ℕ) (fuel k group : ℕ) → IsForest parents → Realizes parents groups → k < fuel → slice_get groups k ≡ Some group → group ≤ k
group_low parents groups zero k group forest it enough there = absurd (omega (arith, enough))
group_low parents groups (suc fuel) k group forest it enough there = elim (cases_eq parent k) [
  | inl same ↦
      let found : Some k ≡ Some group = sym (it.root k (at ∙ ap (λ (n : ℕ). Some n) same)) ∙ there in
      let is = same_Some k group found in
      omega (arith, is)
  | inr apart ↦
      let low : group ≤ parent =
      group_low parents groups fuel parent group forest it (omega (arith, below, apart, enough)) (it.same k parent at ∙ there) in
      omega (arith, low, below)
]
  where
    parent : ℕ
    parent = get_or parents k k

    at : slice_get parents k ≡ Some parent
    at = slice_get-get_or parents k k (subst (λ (n : ℕ). k < n) it.count (slice_get_within groups k group there))

    below : parent ≤ k
    below = forest k parent at

root_kept : (parents groups : List ℕ) (k : ℕ) → IsForest parents → Realizes parents groups → k < length parents → slice_get groups k ≡ Some k
    → slice_get parents k ≡ Some k
root_kept parents groups k forest it within own =
    let below : get_or parents k k ≤ k = forest k (get_or parents k k) at in
    let low : k ≤ get_or parents k k =
    group_low parents groups (suc (get_or parents k k)) (get_or parents k k) k forest it (omega arith) (it.same k (get_or parents k k) at ∙ own) in
    let is : get_or parents k k ≡ k = omega (arith, below, low) in
    at ∙ ap (λ (n : ℕ). Some n) is
  where
    at : slice_get parents k ≡ Some (get_or parents k k)
    at = slice_get-get_or parents k k within

-- the groups of two nets become one, by their parents
pub unite_lower : (parents groups : List ℕ) (one other first second : ℕ) → first < second → IsForest parents → Realizes parents groups
    → group_of groups one ≡ first → group_of groups other ≡ second → slice_get groups first ≡ Some first → first < length parents
    → slice_get parents second ≡ Some second → second < length parents
    → Realizes (slice_set parents second first) (united (group_of groups one) (group_of groups other) groups)
unite_lower parents groups one other first second lower forest it first_is second_is own first_within second_root second_within =
    subst (λ (n : ℕ). Realizes (slice_set parents second first) (united n (group_of groups other) groups)) (sym first_is)
    (subst (λ (n : ℕ). Realizes (slice_set parents second first) (united first n groups)) (sym second_is)
    (united_lower parents groups first second lower it (root_kept parents groups first forest it first_within own) second_root second_within))

pub unite_higher : (parents groups : List ℕ) (one other first second : ℕ) → second ≤ first → IsForest parents → Realizes parents groups
    → group_of groups one ≡ first → group_of groups other ≡ second → slice_get groups first ≡ Some first → first < length parents
    → slice_get parents second ≡ Some second
    → Realizes (slice_set parents first second) (united (group_of groups one) (group_of groups other) groups)
unite_higher parents groups one other first second lower forest it first_is second_is own first_within second_root =
    subst (λ (n : ℕ). Realizes (slice_set parents first second) (united n (group_of groups other) groups)) (sym first_is)
    (subst (λ (n : ℕ). Realizes (slice_set parents first second) (united first n groups)) (sym second_is)
    (united_higher parents groups first second lower it (root_kept parents groups first forest it first_within own) second_root first_within))

-- one net more is alone
pub range_more : (from count : ℕ) → range_with_len from (count + 1) ≡ range_with_len from count ++ (from + count) ∷ []
range_more from zero = let same : from ≡ from + 0 = omega arith in ap (λ (n : ℕ). n ∷ []) same
range_more from (suc count) =
    let more : suc count + 1 ≡ suc (count + 1) = omega arith in
    let same : from + 1 + count ≡ from + suc count = omega arith in
    ap (range_with_len from) more
    ∙ ap (λ (rest : List ℕ). from ∷ rest) (range_more (from + 1) count ∙ ap (λ (n : ℕ). range_with_len (from + 1) count ++ n ∷ []) same)

pub alone_more : (nets : ℕ) → range_with_len 0 (nets + 1) ≡ range_with_len 0 nets ++ nets ∷ []
alone_more nets =
    let same : 0 + nets ≡ nets = omega arith in
    range_more 0 nets ∙ ap (λ (n : ℕ). range_with_len 0 nets ++ n ∷ []) same
