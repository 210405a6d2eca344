-- A pair that is tried on defects, one after another.
use Rattle.std.proofs.Common.{◌≡◌, ℕ, zero, suc, ◌+◌, ◌<◌, ◌≤◌, ◌≢◌, List, [], ◌∷◌, length, Bool, true, false, inl, inr, refl, sym}
use Rattle.std.proofs.Common.{◌∙◌, ap, subst, arith, Some, None, Option, get_or}
use native.Mathlib.Decide.{ℕ_discrete}
use Rattle.std.proofs.lemmas.Bool.{cases_lt}
use Rattle.std.proofs.lemmas.List.{length-set, get_or_past}
use Rattle.std.proofs.lemmas.Nat.Bits.{bit_at-zero}
use Rattle.std.specs.Prelude.{slice_get, slice_set, IsSome}
use Rattle.ca_net.specs.declared.trit.Trit.{Trit}
use Rattle.ca_flat.specs.declared.chip_defect.ChipDefect.{ChipDefect}
use Rattle.ca_flat.specs.Chip.{Chip}
use Rattle.ca_flat.specs.Pair.{DetectsAt, IsShown}
use Rattle.ca_credit.specs.declared.verdict.Verdict.{Verdict}
use Rattle.ca_credit.specs.declared.verdict.Verdict.TheVariants.{Credited, Unexposable, Untestable, Aborted}
use Rattle.ca_credit.specs.declared.round.Round.{Round}
use Rattle.ca_code.specs.Filled.{trits_of}
use Rattle.ca_credit.specs.Defects.{Task, IsDefectAt}
use Rattle.ca_credit.specs.Detection.{AreDetectedAlike, IsFirstOutput}
use Rattle.ca_credit.specs.Table.{verdict_at, is_open, IsAfterPair}
use Rattle.ca_credit.specs.code.Table.{one_if, CreditsOne}
use Rattle.ca_credit.specs.Table.{CreditsIn, CreditsPair}
use Rattle.ca_credit.specs.Detection.{IsAnswer}
use Rattle.ca_credit.specs.ToTry.{IsNowhere}
use Rattle.ca_credit.specs.code.Round.{IsOpenAt, AreOpen, IsRound, IsWithout, IsTried, IsPartOf, TriesMore}
use Rattle.ca_places.specs.declared.place_set.PlaceSet.{PlaceSet}
use Rattle.ca_places.specs.PlaceSet.{Has, HoldsUpTo, IsAsRoomy, IsNext}
use Rattle.std.proofs.lemmas.List.Elements.{Contains-get_or}
use Rattle.std.proofs.Common.{◌↔◌, ◌/◌, ◌%◌, ◌⊎◌, slice_index}
use Rattle.std.specs.Int.{bit_at}
use Rattle.ca_credit.proofs.DetectionLemmas.{first_by, not_shown_by, shown_by_first}
use Rattle.ca_credit.proofs.TableLemmas.{some_within, of_open, verdict_at-set, verdict_at-other, credit_count-set}

-- the answer for a defect is that for another which is detected at the same outputs
pub answer_alike : (chip : Chip) (one other : ChipDefect) (pair : List Trit) (answer : Option ℕ)
    → AreDetectedAlike chip one other pair → IsAnswer chip one pair answer → IsAnswer chip other pair answer
answer_alike chip one other pair None alike is = λ output lt detects. is output lt ((alike output lt).1 detects)
answer_alike chip one other pair (Some output) alike is = record {
  within = is.within;
  here = (alike output is.within).0 is.here;
  none_before = λ before lt detects. is.none_before before lt
      ((alike before (let l = is.within in omega arith)).1 detects);
}

-- where a defect isn't shown, it is detected at no output
pub undetected_answer : (chip : Chip) (defect : ChipDefect) (pair : List Trit) → (IsShown chip defect pair → ⊥) → IsAnswer chip defect pair None
undetected_answer chip defect pair none = λ output lt detects. none (record {
  output = slice_index chip.outputs output;
  observed = Contains-get_or chip.outputs output 0 lt;
  detects = detects;
})

-- the place that is left is open
pub open_left : (round : Round) (place : ℕ) → IsRound round → Has round.left place → IsOpenAt round.verdicts.items place
open_left round place is has = (is.are place).0 (is.some place has)

-- the pair is credited with the defect at a place where it detects it
pub gives_some : (task : Task) (pair : List Bool) (number place output : ℕ) (table : List (Option Verdict))
    → place < length table → is_open (verdict_at table place) ≡ true
    → ((defect : ChipDefect) → IsDefectAt task place defect → IsAnswer (task.chip_of place) defect (trits_of pair) (Some output))
    → CreditsOne task pair number place true table (slice_set table place (Some (Credited number output)))
gives_some task pair number place output table within waits answers =
    let new = slice_set table place (Some (Credited number output)) in
    record {
      as_many = length-set table place (Some (Credited number output));
      here = λ defect at.
          let is = answers defect at in
          let first : IsFirstOutput (task.chip_of place) defect output pair =
          first_by (DetectsAt (task.chip_of place) defect (trits_of pair)) (task.chip_of place).outputs 0 output is.within is.here is.none_before in
          of_open (task.chip_of place) pair number defect (verdict_at table place) (verdict_at new place) waits (inl (record {
            detects = shown_by_first (task.chip_of place) defect (trits_of pair) output first;
            output = output;
            first = first;
            credited = verdict_at-set table place (Some (Credited number output)) within;
          }));
      others = λ other differ. verdict_at-other table place other (Some (Credited number output)) differ;
      counted = credit_count-set table place number output within waits;
    }

pub gives_none : (task : Task) (pair : List Bool) (number place : ℕ) (table : List (Option Verdict))
    → is_open (verdict_at table place) ≡ true
    → ((defect : ChipDefect) → IsDefectAt task place defect → IsAnswer (task.chip_of place) defect (trits_of pair) None)
    → CreditsOne task pair number place false table table
gives_none task pair number place table waits answers = record {
  as_many = refl;
  here = λ defect at. of_open (task.chip_of place) pair number defect (verdict_at table place) (verdict_at table place) waits
      (inr (record { undetected = not_shown_by (task.chip_of place) defect (trits_of pair) (answers defect at); same = refl }));
  others = λ other differ. refl;
  counted = omega arith;
}

-- what there is
pub some_of : {T : Type 0} (o : Option T) → IsSome o → (x : T) × (o ≡ Some x)
some_of None is = absurd (let k : false ≡ true = is in cc)
some_of (Some x) is = (x, refl)

-- what no pair may be credited with any more stays
pub stays_closed : (chip : Chip) (pair : List Bool) (number : ℕ) (defect : ChipDefect) (verdict : Option Verdict)
    → (is_open verdict ≡ true → ⊥) → IsAfterPair chip pair number defect verdict verdict
stays_closed chip pair number defect None closed = absurd (closed refl)
stays_closed chip pair number defect (Some (Credited p o)) closed = refl
stays_closed chip pair number defect (Some Unexposable) closed = refl
stays_closed chip pair number defect (Some Untestable) closed = refl
stays_closed chip pair number defect (Some (Aborted code)) closed = absurd (closed refl)

-- the defect at a place is left no more
pub leaves_one : (table : List (Option Verdict)) (open_places left new : PlaceSet) (place : ℕ) → AreOpen table open_places left
    → IsWithout left new place → AreOpen table open_places new
leaves_one table open_places left new place is without = record {
  are = is.are;
  some = λ k has. is.some k ((without.others k (λ e. without.here (subst (Has new) e has))).0 has);
  room = is.room;
  left_room = without.room ∙ is.left_room;
}

-- a verdict with which no pair may be credited any more
pub closes_one : (table : List (Option Verdict)) (open_places left new_open new_left : PlaceSet) (place : ℕ) (verdict : Option Verdict)
    → AreOpen table open_places left → is_open verdict ≡ false → IsWithout open_places new_open place → IsWithout left new_left place
    → place < length table → AreOpen (slice_set table place verdict) new_open new_left
closes_one table open_places left new_open new_left place verdict is closed without left_without within = record {
  are = λ k. elim (ℕ_discrete k place) [
    | yes e ↦ (
      (λ has. absurd (without.here (subst (Has new_open) e has))),
      (λ open_at. let here : is_open verdict ≡ true = sym (ap is_open (ap (verdict_at (slice_set table place verdict)) e ∙ verdict_at-set table place verdict within)) ∙ open_at.1 in
          let both : true ≡ false = sym here ∙ closed in cc),
    )
    | no differ ↦
        let same : verdict_at (slice_set table place verdict) k ≡ verdict_at table k = verdict_at-other table place k verdict differ in
        let count : length (slice_set table place verdict) ≡ length table = length-set table place verdict in (
          (λ has. let at = (is.are k).0 ((without.others k differ).0 has) in (subst (λ n. k < n) (sym count) at.0, ap is_open same ∙ at.1)),
          (λ at. (without.others k differ).1 ((is.are k).1 (subst (λ n. k < n) count at.0, ap is_open (sym same) ∙ at.1))),
        )
  ];
  some = λ k has.
      let differ : k ≡ place → ⊥ = λ e. left_without.here (subst (Has new_left) e has) in
      (without.others k differ).1 (is.some k ((left_without.others k differ).0 has));
  room = without.room ∙ is.room ∙ ap (λ n. n / 64 + 1) (sym (length-set table place verdict));
  left_room = left_without.room ∙ is.left_room ∙ ap (λ n. n / 64 + 1) (sym (length-set table place verdict));
}

-- a verdict with which a pair may yet be credited
pub stays_open : (table : List (Option Verdict)) (open_places left : PlaceSet) (place : ℕ) (verdict : Option Verdict)
    → AreOpen table open_places left → is_open verdict ≡ true → is_open (verdict_at table place) ≡ true
    → place < length table → AreOpen (slice_set table place verdict) open_places left
stays_open table open_places left place verdict is may was within = record {
  are = λ k.
      let count : length (slice_set table place verdict) ≡ length table = length-set table place verdict in
      elim (ℕ_discrete k place) [
        | yes e ↦ (
          (λ has. (subst (λ n. k < n) (sym count) ((is.are k).0 has).0, ap is_open (ap (verdict_at (slice_set table place verdict)) e ∙ verdict_at-set table place verdict within) ∙ may)),
          (λ at. (is.are k).1 (subst (λ n. k < n) count at.0, ap (λ j. is_open (verdict_at table j)) e ∙ was)),
        )
        | no differ ↦
            let same : verdict_at (slice_set table place verdict) k ≡ verdict_at table k = verdict_at-other table place k verdict differ in (
              (λ has. let at = (is.are k).0 has in (subst (λ n. k < n) (sym count) at.0, ap is_open same ∙ at.1)),
              (λ at. (is.are k).1 (subst (λ n. k < n) count at.0, ap is_open (sym same) ∙ at.1)),
            )
      ];
  some = is.some;
  room = is.room ∙ ap (λ n. n / 64 + 1) (sym (length-set table place verdict));
  left_room = is.left_room ∙ ap (λ n. n / 64 + 1) (sym (length-set table place verdict));
}

-- nothing was tried
pub tries_none : (task : Task) (pair : List Bool) (number : ℕ) (round : Round) → TriesMore task pair number 0 round round
tries_none task pair number round = record {
  tried = λ start end table before. before;
  fewer = λ place has. has;
  stands = λ is. is;
  as_many = refl;
  counted = omega arith;
}

-- one trial after another
pub tries_then : (task : Task) (pair : List Bool) (number some more : ℕ) (a b c : Round)
    → TriesMore task pair number some a b → TriesMore task pair number more b c
    → TriesMore task pair number (some + more) a c
tries_then task pair number some more a b c first second = record {
  tried = λ start end table before. second.tried start end table (first.tried start end table before);
  fewer = λ place has. first.fewer place (second.fewer place has);
  stands = λ is. second.stands (first.stands is);
  as_many = second.as_many ∙ first.as_many;
  counted = let one = first.counted in let two = second.counted in omega arith;
}

-- the same for a task that is equal
pub tries_same : (task same : Task) (pair : List Bool) (number some : ℕ) (a b : Round) → same ≡ task
    → TriesMore same pair number some a b → TriesMore task pair number some a b
tries_same task same pair number some a b e tries = subst (λ (t : Task). TriesMore t pair number some a b) e tries

-- the defect at a place was tried
pub tries_one : (task : Task) (pair : List Bool) (number place : ℕ) (given : Bool) (old new : Round) → Has old.left place
    → IsWithout old.left new.left place → (IsRound old → IsRound new)
    → CreditsOne task pair number place given old.verdicts.items new.verdicts.items
    → TriesMore task pair number (one_if given) old new
tries_one task pair number place given old new was without stands one = record {
  tried = λ start end table before. record {
    as_many = one.as_many ∙ before.as_many;
    inside = λ k has. elim (ℕ_discrete k place) [
      | yes e ↦ absurd (without.here (subst (Has new.left) e has))
      | no differ ↦ before.inside k ((without.others k differ).0 has)
    ];
    done = λ k defect low high gone at. elim (ℕ_discrete k place) [
      | yes e ↦ subst (λ (j : ℕ). IsAfterPair (task.chip_of j) pair number defect (verdict_at table j) (verdict_at new.verdicts.items j)) (sym e)
          (subst (λ (v : Option Verdict). IsAfterPair (task.chip_of place) pair number defect v (verdict_at new.verdicts.items place))
          (before.others place was) (one.here defect (subst (λ (j : ℕ). IsDefectAt task j defect) e at)))
      | no differ ↦ subst (λ (v : Option Verdict). IsAfterPair (task.chip_of k) pair number defect (verdict_at table k) v)
          (sym (one.others k differ)) (before.done k defect low high (λ has. gone ((without.others k differ).1 has)) at)
    ];
    others = λ k has.
        let differ : k ≡ place → ⊥ = λ e. without.here (subst (Has new.left) e has) in
        one.others k differ ∙ before.others k ((without.others k differ).0 has);
    outside = λ k out.
        let here = before.inside place was in
        let low = here.0 in
        let high = here.1 in
        let differ : k ≡ place → ⊥ = λ e. elim out [
          | inl less ↦ absurd (omega arith)
          | inr past ↦ absurd (omega arith)
        ] in
        one.others k differ ∙ before.outside k out;
  };
  fewer = λ k has. elim (ℕ_discrete k place) [
    | yes e ↦ subst (Has old.left) (sym e) was
    | no differ ↦ (without.others k differ).0 has
  ];
  stands = stands;
  as_many = one.as_many;
  counted = one.counted;
}

-- a place of the list has a defect
pub aimed_some : (task : Task) (place : ℕ) (aimed : Option ChipDefect) → aimed ≡ slice_get task.defects place → place < length task.defects → IsSome aimed
aimed_some task place aimed is within = let some = some_within task.defects place within in subst IsSome (sym (is ∙ some.1)) refl

-- the answer for the defect that was aimed at is that for the one at its place
pub answer_here : (task : Task) (aimed_in : Chip) (pair : List Bool) (bits : List Trit) (aimed : Option ChipDefect) (place : ℕ)
    (answer : Option ℕ) → aimed_in ≡ task.chip_of place → bits ≡ trits_of pair → aimed ≡ slice_get task.defects place
    → ((defect : ChipDefect) → aimed ≡ Some defect → IsAnswer aimed_in defect bits answer)
    → (defect : ChipDefect) → IsDefectAt task place defect → IsAnswer (task.chip_of place) defect (trits_of pair) answer
answer_here task aimed_in pair bits aimed place answer chip_is bits_are aimed_is answers defect at =
    subst (λ (x : Chip). IsAnswer x defect (trits_of pair) answer) chip_is
    (subst (λ (b : List Trit). IsAnswer aimed_in defect b answer) bits_are (answers defect (aimed_is ∙ at)))

past : {T : Type 0} (xs : List T) (k : ℕ) (d : T) → length xs ≤ k → get_or xs k d ≡ d
past [] k d le = refl
past (x ∷ xs) zero d le = absurd (omega arith)
past (x ∷ xs) (suc k) d le = past xs k d (omega arith)

-- before the first trial all open defects of the part are left
pub tried_begin : (task : Task) (pair : List Bool) (number start end : ℕ) (open_places left : PlaceSet) (table : List (Option Verdict))
    → AreOpen table open_places left → length table ≡ length task.defects → IsPartOf left open_places start end
    → IsTried task pair number start end left table table
tried_begin task pair number start end open_places left table is count part = record {
  as_many = refl;
  inside = λ place has. let here = (part place).0 has in (here.1, here.2);
  done = λ place defect low high gone at. stays_closed (task.chip_of place) pair number defect (verdict_at table place)
      (λ may. gone ((part place).1 ((is.are place).1 (subst (λ n. place < n) (sym count) (some_before task.defects place defect at), may), low, high)));
  others = λ place has. refl;
  outside = λ place out. refl;
}
  where
    some_before : {T : Type 0} (xs : List T) (k : ℕ) (x : T) → slice_get xs k ≡ Some x → k < length xs
    some_before [] k x e = cc
    some_before (x ∷ xs) zero y e = omega arith
    some_before (x ∷ xs) (suc k) y e = let l = some_before xs k y e in omega arith

-- whether a place is in a set
has_or_not : (set : PlaceSet) (place : ℕ) → Has set place ⊎ (Has set place → ⊥)
has_or_not set place = elim (ℕ_discrete (bit_at (slice_index set.words.items (place / 64)) (place % 64)) 1) [
  | yes has ↦ inl has
  | no gone ↦ inr gone
]

-- where the pair detects all defects that are left nowhere, this is what it makes of the table
pub tried_all : (task : Task) (pair : List Bool) (number start end : ℕ) (open_places left : PlaceSet) (old new : List (Option Verdict))
    → AreOpen new open_places left → ((place : ℕ) → Has left place → IsNowhere task (trits_of pair) place)
    → IsTried task pair number start end left old new → CreditsIn task pair number start end old new
tried_all task pair number start end open_places left old new stands nowhere is = record {
  as_many = is.as_many;
  each = λ place defect low high at. elim (has_or_not left place) [
    | inl has ↦
        let kept = is.others place has in
        let waits : is_open (verdict_at old place) ≡ true = ap is_open (sym kept) ∙ ((stands.are place).0 (stands.some place has)).1 in
        of_open (task.chip_of place) pair number defect (verdict_at old place) (verdict_at new place) waits
        (inr (record { undetected = not_shown_by (task.chip_of place) defect (trits_of pair) (nowhere place has defect at); same = kept }))
    | inr gone ↦ is.done place defect low high gone at
  ];
  others = is.outside;
}

-- what a pair makes of all defects
pub credits_whole : (task : Task) (pair : List Bool) (number : ℕ) (old new : List (Option Verdict))
    → CreditsIn task pair number 0 (length old) old new → CreditsPair task pair number old new
credits_whole task pair number old new is = record {
  as_many = is.as_many;
  each = λ place defect below at. is.each place defect (omega arith) below at;
  others = λ place from. is.others place (inr from);
}

-- a place of a set is within its words
pub has_within : (set : PlaceSet) (place : ℕ) → Has set place → HoldsUpTo set (place + 1)
has_within set place has = elim (cases_lt (place / 64) (length set.words.items)) [
  | inl less ↦ omega arith
  | inr from ↦
      let none : bit_at (slice_index set.words.items (place / 64)) (place % 64) ≡ 0 =
      ap (λ w. bit_at w (place % 64)) (get_or_past set.words.items (place / 64) 0 from) ∙ bit_at-zero (place % 64) in
      absurd (let e : 0 ≡ 1 = sym none ∙ has in omega arith)
]

-- what is left of a set where the places before a start were taken out
pub rest_of : (old new : PlaceSet) (from start : ℕ) → from ≤ start → ((place : ℕ) → place < from → ¬ (Has new place))
    → ((place : ℕ) → from ≤ place → Has new place ↔ Has old place) → ((place : ℕ) → from ≤ place → place < start → Has new place → ⊥)
    → (place : ℕ) → Has new place ↔ (Has old place × (start ≤ place))
rest_of old new from start within none others between place = (
  (λ has. elim (cases_lt place start) [
    | inl low ↦ elim (cases_lt place from) [
      | inl less ↦ absurd (none place less has)
      | inr high ↦ absurd (between place high low has)
    ]
    | inr past ↦ ((others place (omega arith)).0 has, past)
  ]),
  (λ part. (others place (let past = part.1 in omega arith)).1 part.0),
)

-- a part that has all open places from a start on, where the end is past all
pub whole_part : (table : List (Option Verdict)) (open_places left all new : PlaceSet) (start end : ℕ) → AreOpen table open_places left
    → ((place : ℕ) → Has all place ↔ Has open_places place) → ((place : ℕ) → Has new place ↔ (Has all place × (start ≤ place)))
    → end ≡ length table → IsPartOf new open_places start end
whole_part table open_places left all new start end is same rest end_is place = (
  (λ has.
      let was = (rest place).0 has in
      let here = (same place).0 was.0 in
      let below = ((is.are place).0 here).0 in (here, was.1, omega arith)),
  (λ part. (rest place).1 ((same place).1 part.0, part.1)),
)

-- a part of the open places is left
pub leaves_part : (table : List (Option Verdict)) (open_places left new : PlaceSet) (start end : ℕ) → AreOpen table open_places left
    → IsPartOf new open_places start end → IsAsRoomy new left → AreOpen table open_places new
leaves_part table open_places left new start end is part room = record {
  are = is.are;
  some = λ k has. ((part k).0 has).0;
  room = is.room;
  left_room = room ∙ is.left_room;
}

-- one place more is put in
pub part_more : (old new set : PlaceSet) (start from place : ℕ) → start ≤ from → IsPartOf old set start from → IsNext set from (Some place)
    → Has new place → ((other : ℕ) → other ≢ place → Has new other ↔ Has old other) → IsPartOf new set start (place + 1)
part_more old new set start from place past part next here others k = elim (ℕ_discrete k place) [
  | yes e ↦ (
    (λ has. (subst (Has set) (sym e) next.1, (let low = next.0 in omega arith), (omega arith))),
    (λ in_part. subst (Has new) (sym e) here),
  )
  | no differ ↦ (
    (λ has. let was = (part k).0 ((others k differ).0 has) in (was.0, was.1, (let low = next.0 in let high = was.2 in omega arith))),
    (λ in_part. elim (cases_lt k from) [
      | inl low ↦ (others k differ).1 ((part k).1 (in_part.0, in_part.1, low))
      | inr high ↦ absurd (next.2 k high (let below = in_part.2 in omega arith) in_part.0)
    ]),
  )
]

-- where there is no further place before the end, all are in
pub part_ends : (part set : PlaceSet) (start from end : ℕ) → from ≤ end → IsPartOf part set start from
    → ((place : ℕ) → from ≤ place → place < end → Has set place → ⊥) → IsPartOf part set start end
part_ends part set start from end past is none k = (
  (λ has. let was = (is k).0 has in (was.0, was.1, (let high = was.2 in omega arith))),
  (λ in_part. elim (cases_lt k from) [
    | inl low ↦ (is k).1 (in_part.0, in_part.1, low)
    | inr high ↦ absurd (none k high in_part.2 in_part.0)
  ]),
)

-- the pair detects the defect nowhere: the same for a task and bits that are equal
pub nowhere_same : (task same : Task) (pair : List Bool) (bits : List Trit) (place : ℕ) → same ≡ task → bits ≡ trits_of pair
    → IsNowhere same bits place → IsNowhere task (trits_of pair) place
nowhere_same task same pair bits place task_is bits_are nowhere =
    subst (λ (b : List Trit). IsNowhere task b place) bits_are (subst (λ (t : Task). IsNowhere t bits place) task_is nowhere)
