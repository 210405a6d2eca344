-- Ways to a pair that shows a defect, and the fronts that they are.
use Rattle.std.proofs.Common.{◌≡◌, ℕ, ◌<◌, ◌≤◌, List, [], ◌∷◌, ◌++◌, length, Bool, Option, None, Some}
use Rattle.std.proofs.Common.{true, false, inl, inr, refl, sym, ◌∙◌, ap, subst, arith}
use Rattle.std.specs.Prelude.{not, slice_set, IsSome}
use Rattle.std.proofs.lemmas.List.{length-append}
use native.Mathlib.Decide.{ℕ_discrete}
use Rattle.ca_net.specs.declared.trit.Trit.{Trit}
use Rattle.ca_net.specs.declared.trit.Trit.TheVariants.{X}
use Rattle.ca_net.specs.State.{value_at, IsStateBelow}
use Rattle.ca_net.proofs.StateLemmas.{IsBelow-trans}
use Rattle.ca_flat.specs.declared.chip_defect.ChipDefect.{ChipDefect}
use Rattle.ca_flat.specs.declared.token.Token.{Token}
use Rattle.ca_flat.specs.declared.token.Token.TheVariants.{Branch, Leaf}
use Rattle.ca_flat.specs.Chip.{Chip}
use Rattle.ca_flat.specs.Pair.{bit_count, IsShown, IsCompletion}
use Rattle.ca_flat.specs.Waves.{IsFlatChip}
use Rattle.ca_flat.specs.Codes.{At, bit_trit, unset_pair, with_bit, Reads, branch_count, IsFrontBy}
use Rattle.ca_flat.proofs.Codes.{support_within, bit_other, length-with_bit}
use Rattle.ca_flat.proofs.Completions.{shown_is_kept_lem}
use Rattle.ca_code.specs.SearchRules.{search_rules, rules_for, MayLeave}
use Rattle.ca_search.specs.FreeWay.{MaySet, IsFreeWay, FreeWayIsFront}
use Rattle.ca_code.specs.Filled.{filled, trits_of}
use Rattle.ca_search.specs.Judged.{Judged, with_pair, IsShownFor, IsFlatFor}
use Rattle.ca_search.specs.code.Judged.{MaySetFor, MaySetHere, IsUnshownHere}
use Rattle.ca_search.specs.Judged.{IsFreeWayFor, IsWayHere}
use Rattle.ca_code.specs.Tokens.{token_of, tokens_of}
use Rattle.ca_code.proofs.TokenLemmas.{tokens_push, tokens_counted}
use Rattle.ca_code.proofs.FilledLemmas.{filled_above, filled_at}
use Rattle.ca_code.proofs.RuleLemmas.{leaf_is_ruled_out}
use Rattle.ca_search.proofs.WalkLemmas.{length-unset, set_back}

-- a bit that was unset may have any value
set_rises : (pair : List Trit) (bit : ℕ) (v : Bool) → value_at pair bit ≡ X → IsStateBelow pair (with_bit pair bit v)
set_rises pair bit v unset n = elim (ℕ_discrete n bit) [
  | yes e ↦ inl (ap (value_at pair) e ∙ unset)
  | no other ↦ inr (sym (bit_other pair bit n (bit_trit v) other))
]

module _ (chip : Chip) (defect : ChipDefect) where
  -- the pairs of a way rise
  way_rises : (code : List Token) (from to : List Trit) → IsFreeWay chip defect code from to → IsStateBelow from to
  way_rises [] from to way n = inr (ap (λ pair. value_at pair n) way)
  way_rises (Leaf ∷ code) from to way n = absurd way
  way_rises (Branch bit first ∷ code) from to way n = IsBelow-trans _ _ _
      (set_rises from bit first way.1.unset n) (way_rises code (with_bit from bit first) to way.2 n)

  -- they have one length
  way_long : (code : List Token) (from to : List Trit) → IsFreeWay chip defect code from to → length to ≡ length from
  way_long [] from to way = ap length (sym way)
  way_long (Leaf ∷ code) from to way = absurd way
  way_long (Branch bit first ∷ code) from to way =
      way_long code (with_bit from bit first) to way.2 ∙ length-with_bit from bit first

  -- one more bit
  pub way_push : (code : List Token) (from mid : List Trit) (bit : ℕ) (first : Bool)
      → IsFreeWay chip defect code from mid → (IsShown chip defect mid → ⊥) → MaySet chip defect mid bit
      → IsFreeWay chip defect (code ++ Branch bit first ∷ []) from (with_bit mid bit first)
  way_push [] from mid bit first way unshown may =
      subst (λ pair. IsFreeWay chip defect (Branch bit first ∷ []) pair (with_bit mid bit first)) (sym way)
      (unshown, may, refl)
  way_push (Leaf ∷ code) from mid bit first way unshown may = absurd way
  way_push (Branch b v ∷ code) from mid bit first way unshown may =
      (way.0, way.1, way_push code (with_bit from b v) mid bit first way.2 unshown may)

  -- what is known of a way before its last token, and of that
  pub record WayBefore (code : List Token) (from to : List Trit) (bit : ℕ) (first : Bool) : Type 0 where
    pub mid : List Trit
    pub before : IsFreeWay chip defect code from mid
    pub unshown : IsShown chip defect mid → ⊥
    pub may : MaySet chip defect mid bit
    pub last : to ≡ with_bit mid bit first

  pub way_pop : (code : List Token) (from to : List Trit) (bit : ℕ) (first : Bool)
      → IsFreeWay chip defect (code ++ Branch bit first ∷ []) from to → WayBefore code from to bit first
  way_pop [] from to bit first way =
      record { mid = from; before = refl; unshown = way.0; may = way.1; last = sym way.2 }
  way_pop (Leaf ∷ code) from to bit first way = absurd way
  way_pop (Branch b v ∷ code) from to bit first way =
      let rest = way_pop code (with_bit from b v) to bit first way.2 in record {
        mid = rest.mid;
        before = (way.0, way.1, rest.before);
        unshown = rest.unshown;
        may = rest.may;
        last = rest.last;
      }

  -- no way ends with a leaf
  pub way_no_leaf : (code : List Token) (from to : List Trit) → IsFreeWay chip defect (code ++ Leaf ∷ []) from to → ⊥
  way_no_leaf [] from to way = way
  way_no_leaf (Leaf ∷ code) from to way = way
  way_no_leaf (Branch b v ∷ code) from to way = way_no_leaf code (with_bit from b v) to way.2

  -- a pair above which one shows the defect is not ruled out
  module _ (rank : ℕ → ℕ) (is : IsFlatChip chip rank defect) (to : List Trit) (long : length to ≡ bit_count chip)
      (shown : IsShown chip defect to) where
    completes : (from : List Trit) → IsStateBelow from to → IsCompletion chip from (trits_of (filled to))
    completes from up = record {
      above = λ n. IsBelow-trans _ _ _ (up n) (filled_above to n);
      sets_all = λ bit within. filled_at to bit (subst (λ n. bit < n) (sym long) within);
    }

    none_left : (from : List Trit) → IsStateBelow from to → MayLeave chip defect from → ⊥
    none_left from up leaf =
        leaf_is_ruled_out chip rank defect is from leaf (trits_of (filled to)) (completes from up)
        (shown_is_kept_lem chip defect to (trits_of (filled to)) (completes to (λ n. inr refl)) shown)

    -- the pairs that are left for later
    later_of : List Token → List Trit → List (List Trit) → List (List Trit)
    later_of [] from later = later
    later_of (Leaf ∷ code) from later = later
    later_of (Branch bit first ∷ code) from later =
        later_of code (with_bit from bit first) (with_bit from bit (not first) ∷ later)

    way_reads : (code : List Token) (from : List Trit) (later : List (List Trit)) → IsFreeWay chip defect code from to
        → Reads (search_rules chip defect) code (At from later) (At to (later_of code from later))
    unfolding later_of
    way_reads [] from later way = ap (λ pair. At pair later) way
    way_reads (Leaf ∷ code) from later way = absurd way
    way_reads (Branch bit first ∷ code) from later way =
        let up = way_rises (Branch bit first ∷ code) from to way in (
          record {
            may = record {
              is_open = record {
                not_shown = way.0;
                not_settled = λ settled. none_left from up (inl settled);
              };
              supports = way.1.supports;
              unset = way.1.unset;
            };
            not_plain = λ plain. none_left from up (inr plain);
          },
          way_reads code (with_bit from bit first) (with_bit from bit (not first) ∷ later) way.2,
        )

pub free_way_is_front_lem : FreeWayIsFront
free_way_is_front_lem chip rank defect code pair is way shown = record {
  later = later_of chip defect rank is pair long shown code (unset_pair chip) [];
  reads = way_reads chip defect rank is pair long shown code (unset_pair chip) [] way;
}
  where
    long : length pair ≡ bit_count chip
    long = way_long chip defect code (unset_pair chip) pair way ∙ length-unset chip

-- the same for the defect that is aimed at
pub front_for : (chip : Chip) (aim : Option ChipDefect) (code : List Token) (pair : List Trit) → IsFlatFor chip aim
    → IsFreeWayFor chip aim code pair → IsShownFor chip aim pair → IsFrontBy (rules_for chip aim) chip code pair
front_for chip None code pair is way shown = absurd way
front_for chip (Some defect) code pair is way shown = free_way_is_front_lem chip is.0 defect code pair is.1 way shown

-- one more bit
push_for : (chip : Chip) (aim : Option ChipDefect) (code : List Token) (pair : List Trit) (bit : ℕ) (first : Bool)
    → IsFreeWayFor chip aim code pair → (IsShownFor chip aim pair → ⊥) → MaySetFor chip aim pair bit
    → IsFreeWayFor chip aim (code ++ Branch bit first ∷ []) (with_bit pair bit first)
push_for chip None code pair bit first way unshown may = absurd way
push_for chip (Some defect) code pair bit first way unshown may =
    way_push chip defect code (unset_pair chip) pair bit first way unshown may

-- one bit less, which is a pattern bit
record IsPopped (chip : Chip) (aim : Option ChipDefect) (code : List Token) (pair : List Trit) (bit : ℕ) : Type 0 where
  pub way : IsFreeWayFor chip aim code (slice_set pair bit X)
  pub within : bit < bit_count chip

pop_for : (chip : Chip) (aim : Option ChipDefect) (code : List Token) (pair : List Trit) (bit : ℕ) (first : Bool)
    → IsFreeWayFor chip aim (code ++ Branch bit first ∷ []) pair → IsPopped chip aim code pair bit
pop_for chip None code pair bit first way = absurd way
pop_for chip (Some defect) code pair bit first way =
    let last = way_pop chip defect code (unset_pair chip) pair bit first way in
    let within = support_within chip defect bit last.may.supports in
    let long = way_long chip defect code (unset_pair chip) last.mid last.before ∙ length-unset chip in
    let back = ap (λ p. slice_set p bit X) last.last
    ∙ set_back last.mid bit (bit_trit first) (subst (λ n. bit < n) (sym long) within) last.may.unset in
    record {
      way = subst (λ p. IsFreeWay chip defect code (unset_pair chip) p) (sym back) last.before;
      within = within;
    }

no_leaf_for : (chip : Chip) (aim : Option ChipDefect) (code : List Token) (pair : List Trit)
    → IsFreeWayFor chip aim (code ++ Leaf ∷ []) pair → ⊥
no_leaf_for chip None code pair way = way
no_leaf_for chip (Some defect) code pair way = way_no_leaf chip defect code (unset_pair chip) pair way

-- a way begins
begins_for : (chip : Chip) (aim : Option ChipDefect) → IsSome aim → IsFreeWayFor chip aim [] (unset_pair chip)
begins_for chip None some = absurd (let clash : false ≡ true = some in cc)
begins_for chip (Some defect) some = refl

-- by what each call said of its result
pub way_begins : (old : Judged) (numbers : List ℕ) → IsSome old.aim → numbers ≡ [] → old.pair ≡ unset_pair old.chip → IsWayHere old (tokens_of numbers)
way_begins old numbers some none unset =
    subst (λ pair. IsFreeWayFor old.chip old.aim (tokens_of numbers) pair) (sym unset)
    (subst (λ (list : List ℕ). IsFreeWayFor old.chip old.aim (tokens_of list) (unset_pair old.chip)) (sym none) (begins_for old.chip old.aim some))

pub way_longer : (old new : Judged) (numbers longer : List ℕ) (bit number : ℕ) (first : Bool)
    → IsWayHere old (tokens_of numbers) → IsUnshownHere old → MaySetHere old bit
    → new ≡ with_pair old (with_bit old.pair bit first) → longer ≡ numbers ++ number ∷ []
    → token_of number ≡ Branch bit first → IsWayHere new (tokens_of longer)
way_longer old new numbers longer bit number first way unshown may e pushed is =
    subst (λ c. IsWayHere new c) (sym (tokens_push numbers longer number (Branch bit first) pushed is))
    (subst (λ j. IsWayHere j (tokens_of numbers ++ Branch bit first ∷ [])) (sym e)
    (push_for old.chip old.aim (tokens_of numbers) old.pair bit first way unshown may))

-- the way has the last token
way_with : (old : Judged) (numbers rest : List ℕ) (number : ℕ) (token : Token) → IsWayHere old (tokens_of numbers)
    → numbers ≡ rest ++ number ∷ [] → token_of number ≡ token → IsWayHere old (tokens_of rest ++ token ∷ [])
way_with old numbers rest number token way popped is =
    subst (λ c. IsWayHere old c) (tokens_push rest numbers number token popped is) way

pub popped_bit : (old : Judged) (numbers rest : List ℕ) (bit number : ℕ) (first : Bool)
    → IsWayHere old (tokens_of numbers) → numbers ≡ rest ++ number ∷ [] → token_of number ≡ Branch bit first
    → bit < bit_count old.chip
popped_bit old numbers rest bit number first way popped is =
    (pop_for old.chip old.aim (tokens_of rest) old.pair bit first
    (way_with old numbers rest number (Branch bit first) way popped is)).within

pub way_shorter : (old new : Judged) (numbers rest : List ℕ) (bit number : ℕ) (first : Bool)
    → IsWayHere old (tokens_of numbers) → numbers ≡ rest ++ number ∷ [] → token_of number ≡ Branch bit first
    → new ≡ with_pair old (slice_set old.pair bit X) → IsWayHere new (tokens_of rest)
way_shorter old new numbers rest bit number first way popped is e =
    subst (λ j. IsWayHere j (tokens_of rest)) (sym e)
    (pop_for old.chip old.aim (tokens_of rest) old.pair bit first
    (way_with old numbers rest number (Branch bit first) way popped is)).way

pub no_leaf_popped : (old : Judged) (numbers rest : List ℕ) (number : ℕ) → IsWayHere old (tokens_of numbers)
    → numbers ≡ rest ++ number ∷ [] → token_of number ≡ Leaf → ⊥
no_leaf_popped old numbers rest number way popped is =
    no_leaf_for old.chip old.aim (tokens_of rest) old.pair (way_with old numbers rest number Leaf way popped is)

pub fewer_within : (numbers rest : List ℕ) (number budget : ℕ) → numbers ≡ rest ++ number ∷ [] → length numbers ≤ budget
    → length rest ≤ budget
fewer_within numbers rest number budget popped within =
    let l = length-append rest (number ∷ []) in let k = ap length popped in omega arith

pub more_within : (numbers longer : List ℕ) (number budget : ℕ) → longer ≡ numbers ++ number ∷ []
    → length numbers < budget → length longer ≤ budget
more_within numbers longer number budget pushed below =
    let l = length-append numbers (number ∷ []) in let k = ap length pushed in omega arith

-- no more branches than tokens
branches_counted : (code : List Token) → branch_count code ≤ length code
branches_counted [] = omega arith
branches_counted (Branch bit first ∷ code) = let h = branches_counted code in omega arith
branches_counted (Leaf ∷ code) = let h = branches_counted code in omega arith

pub branches_within : (numbers : List ℕ) (budget : ℕ) → length numbers ≤ budget
    → branch_count (tokens_of numbers) ≤ budget
branches_within numbers budget within =
    let b = branches_counted (tokens_of numbers) in let c = tokens_counted numbers in omega arith
