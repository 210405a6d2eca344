-- First detections.
use Rattle.std.proofs.Common.{◌≡◌, ◌≢◌, ℕ, zero, suc, ◌+◌, ◌<◌, ◌≤◌, List, [], ◌∷◌, length, Bool, inl, inr, true}
use Rattle.std.proofs.Common.{refl, sym, ◌∙◌, ap, subst, arith, Some, None, Option, take, get_or}
use Rattle.std.specs.Prelude.{slice_get, IsSomeAnd}
use Rattle.std.specs.List.{Contains}
use Rattle.std.proofs.lemmas.Bool.{cases_eq, cases_lt}
use Rattle.std.proofs.lemmas.Option.{get_or_from_slice_get, slice_get_within}
use Rattle.std.proofs.lemmas.List.{get_or-set_same, get_or-set_other, length-set}
use Rattle.std.proofs.lemmas.List.Elements.{All-more}
use Rattle.ca_base.specs.First.{IsFirst}
use Rattle.ca_net.specs.declared.trit.Trit.{Trit}
use Rattle.ca_places.specs.declared.place_set.PlaceSet.{PlaceSet}
use Rattle.ca_places.specs.PlaceSet.{Has}
use Rattle.ca_flat.specs.declared.chip_defect.ChipDefect.{ChipDefect}
use Rattle.ca_flat.specs.Chip.{Chip}
use Rattle.ca_flat.specs.Pair.{DetectsAt, IsShown}
use Rattle.ca_claim.specs.declared.claim.Claim.{Claim}
use Rattle.ca_flat.specs.Detection.{trits_of, Detects, NoneDetects, IsFirstOutput, IsFirstDetection}
use Rattle.ca_read_code.specs.Examined.{Examined}
use Rattle.ca_cert.specs.declared.detection.Detection.{Detection}
use Rattle.ca_cert.specs.declared.detection.Sought.{Sought}
use Rattle.ca_cert.specs.Tested.{IsDetectingOutput, KeepsChip, KeepsPair}
use Rattle.ca_cert.specs.Listed.{IsLook, IsNextToLook}
use Rattle.ca_cert.specs.code.Found.{asks, IsFoundTo, AreFound}
use Rattle.ca_cert.specs.code.Asked.{AreAsked}
use Rattle.ca_cert.specs.code.Sought.{found_at, AreTried, AreSought, StaySought, Notes, IsNoted, LooksAt}

-- the entry at the first place is in the list
pub contained : {T : Type 0} (xs : List T) (P : T → Type 0) (k : ℕ) → IsSomeAnd (slice_get xs k) P → (x : T) × Contains xs x × P x
contained [] P k here = absurd here
contained (x ∷ xs) P zero here = (x, (0, omega arith, refl), here)
contained (x ∷ xs) P (suc k) here =
    let found = contained xs P k here in
    (found.0, (suc found.1.0, (let lt : found.1.0 < length xs = found.1.1 in omega arith), found.1.2), found.2)

shown_by_first : (chip : Chip) (defect : ChipDefect) (pair : List Trit) (output : ℕ)
    → IsFirst (DetectsAt chip defect pair) chip.outputs output → IsShown chip defect pair
shown_by_first chip defect pair output first =
    let found = contained chip.outputs (DetectsAt chip defect pair) output first.here in
    record { output = found.0; observed = found.1; detects = found.2 }

some_there : {T : Type 0} (xs : List T) (k : ℕ) (x : T) (P : T → Type 0) → slice_get xs k ≡ Some x → P x → IsSomeAnd (slice_get xs k) P
some_there xs k x P is holds = subst (λ o. IsSomeAnd o P) (sym is) holds

-- no pair detected the defect so far, nor does the next one
none_next : (chip : Chip) (defect : ChipDefect) (pairs : List (List Bool)) (pair : ℕ) (bits : List Bool)
    → slice_get pairs pair ≡ Some bits → NoneDetects chip defect (take pair pairs)
    → IsDetectingOutput chip defect (trits_of bits) None → NoneDetects chip defect (take (pair + 1) pairs)
none_next chip defect pairs pair bits is none look =
    All-more (λ b. Detects chip defect b → ⊥) pairs pair bits (slice_get_within pairs pair bits is) none
    (subst (λ b. Detects chip defect b → ⊥) (sym (get_or_from_slice_get pairs pair bits bits is)) look)

-- the next one does
first_next : (chip : Chip) (defect : ChipDefect) (pairs : List (List Bool)) (pair : ℕ) (bits : List Bool) (output : ℕ)
    → slice_get pairs pair ≡ Some bits → NoneDetects chip defect (take pair pairs)
    → IsDetectingOutput chip defect (trits_of bits) (Some output) → IsFirstDetection chip defect pairs pair output
first_next chip defect pairs pair bits output is none look = record {
  first_pair = record {
    here = some_there pairs pair bits (Detects chip defect) is (shown_by_first chip defect (trits_of bits) output look);
    none_before = none;
  };
  first_output = some_there pairs pair bits (IsFirstOutput chip defect output) is look;
}

-- the pair in hand is tried on the places before one
module _ (examined : Examined) (defects : List ChipDefect) (pairs : List (List Bool)) (pair from : ℕ) (bits : List Bool)
    (is_pair : slice_get pairs pair ≡ Some bits) (loaded : examined.pair ≡ trits_of bits) (old : Sought)
    (are : AreTried examined.chip defects pairs pair from old) where
  none_more : (place : ℕ) (defect : ChipDefect) → from ≤ place → Has old.left place → slice_get defects place ≡ Some defect
      → IsLook examined defects place None → NoneDetects examined.chip defect (take (pair + 1) pairs)
  none_more place defect past has is look =
      none_next examined.chip defect pairs pair bits is_pair (are.rest place defect past has is)
      (subst (λ p. IsDetectingOutput examined.chip defect p None) loaded (look defect is))

  before : (place : ℕ) → ((k : ℕ) → from ≤ k → k < place → Has old.left k → IsLook examined defects k None)
      → (other : ℕ) (defect : ChipDefect) → other < place → Has old.left other → slice_get defects other ≡ Some defect
      → NoneDetects examined.chip defect (take (pair + 1) pairs)
  before place passed other defect lt has is = elim (cases_lt other from) [
    | inl low ↦ are.done other defect low has is
    | inr high ↦ none_more other defect high has is (passed other high lt has)
  ]

  -- it is tried on all
  pub tried_all : IsNextToLook examined defects old.left from None → AreSought examined.chip defects pairs (pair + 1) old
  tried_all none = record {
    size = are.size;
    room = are.room;
    within = are.within;
    unfound = are.unfound;
    first = are.first;
    done = λ other defect lt has is. absurd (omega arith);
    rest = λ other defect le has is. elim (cases_lt other from) [
      | inl low ↦ are.done other defect low has is
      | inr high ↦ none_more other defect high has is (none other high has)
    ];
  }

  module _ (place : ℕ) (next : IsNextToLook examined defects old.left from (Some place)) where
    passed : IsLook examined defects place None → AreTried examined.chip defects pairs pair (place + 1) old
    passed look = record {
      size = are.size;
      room = are.room;
      within = are.within;
      unfound = are.unfound;
      first = are.first;
      done = λ other defect lt has is. elim (cases_eq other place) [
        | inl e ↦ none_more other defect (let le : from ≤ place = next.0 in omega arith) has is
            (subst (λ k. IsLook examined defects k None) (sym e) look)
        | inr apart ↦ before place next.2 other defect (omega arith) has is
      ];
      rest = λ other defect le has is. are.rest other defect (let low : from ≤ place = next.0 in omega arith) has is;
    }

    noted : (output : ℕ) (new : Sought) → IsLook examined defects place (Some output) → Notes pair place output old new
        → AreTried examined.chip defects pairs pair (place + 1) new
    noted output new look notes = record {
      size = ap (λ (l : List (Option Detection)). length l) notes.found ∙ length-set old.found.items place (Some detection) ∙ are.size;
      room = let same = notes.room in let room = are.room in omega arith;
      within = λ other has. are.within other (was other has);
      unfound = λ other has. entry other (apart other has) ∙ are.unfound other (was other has);
      first = λ other defect found is entry_is. elim (cases_eq other place) [
        | inl e ↦
            let here : slice_get defects place ≡ Some defect = subst (λ k. slice_get defects k ≡ Some defect) e is in
            let same : Some detection ≡ Some found =
            sym here_is ∙ subst (λ k. found_at new k ≡ Some found) e entry_is in
            subst (IsFoundTo examined.chip defect pairs pair) same
            (first_next examined.chip defect pairs pair bits output is_pair (are.rest place defect next.0 next.1 here)
            (subst (λ p. IsDetectingOutput examined.chip defect p (Some output)) loaded (look defect here)))
        | inr far ↦ are.first other defect found is (sym (entry other far) ∙ entry_is)
      ];
      done = λ other defect lt has is. before place next.2 other defect
          (let far : other ≢ place = apart other has in omega arith) (was other has) is;
      rest = λ other defect le has is. are.rest other defect (let low : from ≤ place = next.0 in omega arith) (was other has) is;
    }
      where
        detection : Detection
        detection = record { pair = pair; output = output }

        apart : (other : ℕ) → Has new.left other → other ≢ place
        apart other has = λ e. notes.here (subst (Has new.left) e has)

        was : (other : ℕ) → Has new.left other → Has old.left other
        was other has = (notes.others other (apart other has)).0 has

        entry : (other : ℕ) → other ≢ place → found_at new other ≡ found_at old other
        entry other far = ap (λ l. get_or l other None) notes.found ∙ get_or-set_other old.found.items place other (Some detection) None far

        within_found : place < length old.found.items
        within_found = let size = are.size in let lt = are.within place next.1 in omega arith

        here_is : found_at new place ≡ Some detection
        here_is = ap (λ l. get_or l place None) notes.found ∙ get_or-set_same old.found.items place (Some detection) None within_found

    by : (output : Option ℕ) (new : Sought) → IsLook examined defects place output → IsNoted pair place old new output
        → AreTried examined.chip defects pairs pair (place + 1) new
    by None new look is = subst (AreTried examined.chip defects pairs pair (place + 1)) (sym is) (passed look)
    by (Some output) new look notes = noted output new look notes

    -- it is tried on one place more
    pub tried_more : (new : Sought) → LooksAt examined defects pair place old new
        → AreTried examined.chip defects pairs pair (place + 1) new
    tried_more new looks = by looks.output new looks.look looks.noted

found_once : (detection : Detection) (found : Option Detection) → found ≡ None → found ≡ Some detection → ⊥
found_once detection found none there = absurd (let clash = sym none ∙ there in cc)

stay_by : (pair place : ℕ) (old new : Sought) (output : Option ℕ) → IsNoted pair place old new output
    → place < length old.found.items → StaySought old new
stay_by pair place old new None is within = subst (StaySought old) (sym is) (record { none = λ k none. none; left = λ k has none. has })
stay_by pair place old new (Some output) notes within = record {
  none = λ k none. elim (cases_eq k place) [
    | inl e ↦ absurd (here (subst (λ i. found_at new i ≡ None) e none))
    | inr far ↦ sym (entry k far) ∙ none
  ];
  left = λ k has none. elim (cases_eq k place) [
    | inl e ↦ absurd (here (subst (λ i. found_at new i ≡ None) e none))
    | inr far ↦ (notes.others k far).1 has
  ];
}
  where
    detection : Detection
    detection = record { pair = pair; output = output }

    entry : (k : ℕ) → k ≢ place → found_at new k ≡ found_at old k
    entry k far = ap (λ l. get_or l k None) notes.found ∙ get_or-set_other old.found.items place k (Some detection) None far

    here : found_at new place ≡ None → ⊥
    here none =
        let there : found_at new place ≡ Some detection =
        ap (λ l. get_or l place None) notes.found ∙ get_or-set_same old.found.items place (Some detection) None within in
        found_once detection (found_at new place) none there

-- one change after another
pub stay_on : (first mid last : Sought) → StaySought first mid → StaySought mid last → StaySought first last
stay_on first mid last one two = record {
  none = λ k none. one.none k (two.none k none);
  left = λ k has none. two.left k (one.left k has (two.none k none)) none;
}

-- what was left is so still, or was found
pub stay_more : (examined : Examined) (defects : List ChipDefect) (pair place : ℕ) (first old new : Sought)
    → LooksAt examined defects pair place old new → place < length old.found.items → StaySought first old → StaySought first new
stay_more examined defects pair place first old new looks within stay =
    stay_on first old new stay (stay_by pair place old new looks.output looks.noted within)

pub keeps_on : (first mid last : Examined) → KeepsChip first mid → KeepsChip mid last → KeepsChip first last
keeps_on first mid last one two = record { chip = two.chip ∙ one.chip; places = two.places ∙ one.places }

pub pair_keeps_on : (first mid last : Examined) → KeepsPair first mid → KeepsPair mid last → KeepsPair first last
pair_keeps_on first mid last one two = record { chip = keeps_on first mid last one.chip two.chip; pair = two.pair ∙ one.pair }

-- the same of the same chip and list
pub tried_as : (chip new_chip : Chip) (defects new_defects : List ChipDefect) (pairs : List (List Bool)) (pair from : ℕ) (sought : Sought)
    → new_chip ≡ chip → new_defects ≡ defects → AreTried chip defects pairs pair from sought
    → AreTried new_chip new_defects pairs pair from sought
tried_as chip new_chip defects new_defects pairs pair from sought chip_is list_is are =
    subst (λ c. AreTried c new_defects pairs pair from sought) (sym chip_is)
    (subst (λ l. AreTried chip l pairs pair from sought) (sym list_is) are)

look_as : (old new : Examined) (defects : List ChipDefect) (place : ℕ) (output : Option ℕ) → KeepsPair old new
    → IsLook old defects place output → IsLook new defects place output
look_as old new defects place output keeps look defect is =
    subst (λ c. IsDetectingOutput c defect new.pair output) (sym keeps.chip.chip)
    (subst (λ p. IsDetectingOutput old.chip defect p output) (sym keeps.pair) (look defect is))

-- the next place for the same chip, pair and list
pub next_as : (old new : Examined) (defects new_defects : List ChipDefect) (set : PlaceSet) (from : ℕ) (next : Option ℕ)
    → KeepsPair old new → new_defects ≡ defects → IsNextToLook old defects set from next → IsNextToLook new new_defects set from next
next_as old new defects new_defects set from None keeps list_is is =
    subst (λ l. IsNextToLook new l set from None) (sym list_is)
    (λ place past has. look_as old new defects place None keeps (is place past has))
next_as old new defects new_defects set from (Some next) keeps list_is is =
    subst (λ l. IsNextToLook new l set from (Some next)) (sym list_is)
    (is.0, is.1, λ place past lt has. look_as old new defects place None keeps (is.2 place past lt has))

-- what was found of the places that were asked for, after all pairs
pub found_all : (chip : Chip) (defects : List ChipDefect) (claims : List Claim) (pairs : List (List Bool)) (count : ℕ)
    (first last : Sought) → length defects ≡ length claims → AreAsked claims (length claims) first.left → StaySought first last
    → AreSought chip defects pairs count last → AreFound chip defects claims pairs count last.found.items
found_all chip defects claims pairs count first last same asked stay are = record {
  size = are.size ∙ same;
  each = λ place defect claim is_defect is_claim asks_is.
      entry place defect claim is_defect is_claim asks_is (found_at last place) refl;
}
  where
    entry : (place : ℕ) (defect : ChipDefect) (claim : Claim) → slice_get defects place ≡ Some defect → slice_get claims place ≡ Some claim
        → asks claim ≡ true → (o : Option Detection) → found_at last place ≡ o → IsFoundTo chip defect pairs count (found_at last place)
    entry place defect claim is_defect is_claim asks_is None e = subst (IsFoundTo chip defect pairs count) (sym e)
        (are.rest place defect (omega arith) (stay.left place (asked.each place claim (slice_get_within claims place claim is_claim) is_claim asks_is) e) is_defect)
    entry place defect claim is_defect is_claim asks_is (Some found) e = subst (IsFoundTo chip defect pairs count) (sym e)
        (are.first place defect found is_defect e)
