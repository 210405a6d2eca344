-- The steps of a search: a branch, a turn and a leaf.
use Rattle.std.proofs.Common.{◌≡◌, ℕ, ◌+◌, ◌*◌, ◌<◌, ◌≤◌, List, [], ◌∷◌, ◌++◌, length, Bool, true, false}
use Rattle.std.proofs.Common.{Option, None, Some, inl, inr, refl, sym, ◌∙◌, ap, subst, arith}
use Rattle.std.specs.Prelude.{not, cond, slice_set}
use Rattle.std.proofs.lemmas.List.{length-append}
use Rattle.ca_net.specs.declared.trit.Trit.{Trit}
use Rattle.ca_net.specs.declared.trit.Trit.TheVariants.{X}
use Rattle.ca_net.specs.State.{value_at}
use Rattle.ca_flat.specs.declared.chip_defect.ChipDefect.{ChipDefect}
use Rattle.ca_flat.specs.declared.token.Token.{Token}
use Rattle.ca_flat.specs.declared.token.Token.TheVariants.{Branch, Leaf}
use Rattle.ca_flat.specs.Chip.{Chip}
use Rattle.ca_flat.specs.Pair.{bit_count}
use Rattle.ca_flat.specs.Codes.{At, Ended, bit_trit, unset_pair, with_bit, after_tree, branch_count}
use Rattle.ca_flat.specs.Codes.{IsWholeBy}
use Rattle.ca_flat.proofs.Codes.{support_within}
use Rattle.ca_search.specs.declared.trail.Decision.{Decision}
use Rattle.ca_code.specs.SearchRules.{rules_for, MayLeaveFor, MayDecideFor}
use Rattle.ca_search.specs.Judged.{Judged, with_pair, IsSameAim, IsSettledFor, IsPlainFor}
use Rattle.ca_search.specs.code.Judged.{MayLeaveHere}
use Rattle.ca_search.specs.code.Judged.{MayDecideHere}
use Rattle.ca_search.specs.code.Steps.{pair_after, later_after, AreFresh, Follows, still_later, Stands}
use Rattle.ca_search.specs.code.Steps.{TurnsTo}
use Rattle.ca_search.specs.code.Steps.{IsTurn}
use Rattle.ca_search.proofs.WalkLemmas.{pair_after_push, later_after_push, fresh_push, fresh_pop}
use Rattle.ca_search.proofs.WalkLemmas.{length-pair_after, length-unset, set_twice, set_back, reads_append}
use Rattle.ca_search.proofs.WalkLemmas.{branch_count-append, front_is_short}

-- a settled pair may be left
pub settled_leaves : (chip : Chip) (aim : Option ChipDefect) (pair : List Trit) → IsSettledFor chip aim pair
    → MayLeaveFor chip aim pair
settled_leaves chip None pair settled = settled
settled_leaves chip (Some defect) pair settled = inl settled

-- so may one that is plainly ruled out
pub plain_leaves : (chip : Chip) (aim : Option ChipDefect) (pair : List Trit) → IsPlainFor chip aim pair
    → MayLeaveFor chip aim pair
plain_leaves chip None pair plain = plain
plain_leaves chip (Some defect) pair plain = inr plain

-- a bit that may be decided is one of the pattern bits
pub decided_within : (chip : Chip) (aim : Option ChipDefect) (pair : List Trit) (bit : ℕ)
    → MayDecideFor chip aim pair bit → bit < bit_count chip
decided_within chip None pair bit may = absurd may
decided_within chip (Some defect) pair bit may = support_within chip defect bit may.may.supports

-- and is unset
pub decided_unset : (chip : Chip) (aim : Option ChipDefect) (pair : List Trit) (bit : ℕ)
    → MayDecideFor chip aim pair bit → value_at pair bit ≡ X
decided_unset chip None pair bit may = absurd may
decided_unset chip (Some defect) pair bit may = may.may.unset

-- a search begins at the unset pair
pub begins : (judged : Judged) (budget : ℕ) → judged.pair ≡ unset_pair judged.chip → Stands judged [] [] 0 budget
unfolding pair_after later_after AreFresh
begins judged budget unset = record {
  follows = record { at = unset; fresh = tt };
  reads = ap (λ pair. At pair []) (sym unset);
  counted = refl;
  within = omega arith;
  few = omega arith;
}

-- a first decision
abbrev pub first_to : ℕ → Bool → Decision
first_to bit first = record { bit = bit; value = first; is_second = false }

-- a decision
pub branched : (old : Judged) (code : List Token) (ds : List Decision) (branches budget bit : ℕ) (first : Bool)
    → Stands old code ds branches budget → MayDecideHere old bit → branches < budget
    → Stands (with_pair old (with_bit old.pair bit first)) (code ++ Branch bit first ∷ []) (ds ++ first_to bit first ∷ [])
    (branches + 1) budget
branched old code ds branches budget bit first stands may unspent = record {
  follows = record {
    at = ap (λ pair. with_bit pair bit first) stands.follows.at ∙ sym (pair_after_push ds (first_to bit first) unset);
    fresh = fresh_push ds (first_to bit first) unset stands.follows.fresh
        (let l = length-pair_after ds unset in let k = length-unset old.chip in
        let s = decided_within old.chip old.aim old.pair bit may in omega arith)
        (ap (λ pair. value_at pair bit) (sym stands.follows.at) ∙ decided_unset old.chip old.aim old.pair bit may);
  };
  reads = reads_append (rules_for old.chip old.aim) code (Branch bit first ∷ []) (At unset [])
      (At old.pair (still_later old ds)) _ stands.reads (
        may,
        ap (λ later. At (with_bit old.pair bit first) later)
            (ap (λ pair. with_bit pair bit (not first) ∷ still_later old ds) stands.follows.at
            ∙ sym (later_after_push ds (first_to bit first) unset [])),
      );
  counted = let a = branch_count-append code (Branch bit first ∷ []) in let b = stands.counted in omega arith;
  within = omega arith;
  few = let a = length-append ds (first_to bit first ∷ []) in let b = stands.few in omega arith;
}
  where
    unset : List Trit
    unset = unset_pair old.chip

-- all decisions that were taken back are second ones
pub record TurnsBack (old now : Judged) (before ds : List Decision) : Type 0 where
  pub aim : IsSameAim old now
  pub follows : Follows now ds
  pub left : still_later old before ≡ still_later now ds

pub turns_none : (old : Judged) (ds : List Decision) → Follows old ds → TurnsBack old old ds ds
turns_none old ds follows = record { aim = refl; follows = follows; left = refl }

-- what a decision leaves for later, by whether it is a second one
abbrev left_by : Judged → List Decision → Decision → Bool → List (List Trit)
left_by now ds d second =
    cond second (later_after ds (unset_pair now.chip) [])
    (with_bit (pair_after ds (unset_pair now.chip)) d.bit (not d.value) ∷ later_after ds (unset_pair now.chip) [])

pub takes_back : (old now : Judged) (before ds : List Decision) (d : Decision)
    → TurnsBack old now before (ds ++ d ∷ []) → d.is_second ≡ true
    → TurnsBack old (with_pair now (slice_set now.pair d.bit X)) before ds
takes_back old now before ds d back second =
    let unset = unset_pair now.chip in
    let fresh = fresh_pop ds d unset back.follows.fresh in
    record {
      aim = ap (λ j. with_pair j (slice_set now.pair d.bit X)) back.aim;
      follows = record {
        at = ap (λ pair. slice_set pair d.bit X) (back.follows.at ∙ pair_after_push ds d unset)
            ∙ set_back (pair_after ds unset) d.bit (bit_trit d.value) fresh.within fresh.unset;
        fresh = fresh.before;
      };
      left = back.left ∙ later_after_push ds d unset [] ∙ ap (left_by now ds d) second;
    }

-- the decision turned to its opposite
abbrev pub turned : Decision → Decision
turned d = record { bit = d.bit; value = not d.value; is_second = true }

pub turns : (old now : Judged) (before ds : List Decision) (d : Decision)
    → TurnsBack old now before (ds ++ d ∷ []) → d.is_second ≡ false
    → TurnsTo old (with_pair now (with_bit now.pair d.bit (not d.value))) before (ds ++ turned d ∷ [])
turns old now before ds d back not_second =
    let unset = unset_pair now.chip in
    let fresh = fresh_pop ds d unset back.follows.fresh in
    let same : with_bit now.pair d.bit (not d.value) ≡ with_bit (pair_after ds unset) d.bit (not d.value) =
    ap (λ pair. with_bit pair d.bit (not d.value)) (back.follows.at ∙ pair_after_push ds d unset)
    ∙ set_twice (pair_after ds unset) d.bit (bit_trit d.value) (bit_trit (not d.value)) fresh.within in
    record {
      follows = record {
        at = same ∙ sym (pair_after_push ds (turned d) unset);
        fresh = fresh_push ds (turned d) unset fresh.before fresh.within fresh.unset;
      };
      next = back.left ∙ later_after_push ds d unset [] ∙ ap (left_by now ds d) not_second
          ∙ ap (λ pair. pair ∷ later_after ds unset []) (sym same)
          ∙ ap (λ later. with_bit now.pair d.bit (not d.value) ∷ later) (sym (later_after_push ds (turned d) unset []));
    }

-- where no decision is left, none was a first one
pub turns_out : (old now : Judged) (before : List Decision) → TurnsBack old now before []
    → still_later old before ≡ []
unfolding later_after
turns_out old now before back = back.left

-- after a leaf the reading is at the next pair, or the code is whole
abbrev pub IsLeftAt : Bool → Judged → List Token → List Decision → ℕ → ℕ → Type 0
IsLeftAt true new code decisions branches budget = Stands new code decisions branches budget
IsLeftAt false new code decisions branches budget = IsWholeBy (rules_for new.chip new.aim) new.chip code

-- a leaf, and the turn after it
left_at : (b : Bool) (old : Judged) (pair : List Trit) (code : List Token) (ds after : List Decision)
    (branches budget : ℕ) → Stands old code ds branches budget → MayLeaveHere old
    → IsTurn b old (with_pair old pair) ds after → length after ≤ length ds
    → IsLeftAt b (with_pair old pair) (code ++ Leaf ∷ []) after branches budget
left_at true old pair code ds after branches budget stands leaf turn fewer = record {
  follows = turn.follows;
  reads = reads_append (rules_for old.chip old.aim) code (Leaf ∷ []) (At (unset_pair old.chip) [])
      (At old.pair (still_later old ds)) _ stands.reads (leaf, ap after_tree turn.next);
  counted = let a = branch_count-append code (Leaf ∷ []) in let b = stands.counted in omega arith;
  within = stands.within;
  few = let b = stands.few in omega arith;
}
left_at false old pair code ds after branches budget stands leaf turn fewer =
    reads_append (rules_for old.chip old.aim) code (Leaf ∷ []) (At (unset_pair old.chip) [])
    (At old.pair (still_later old ds)) Ended stands.reads (leaf, ap after_tree turn)

pub left : (b : Bool) (old new : Judged) (code : List Token) (ds after : List Decision) (branches budget : ℕ)
    → IsSameAim old new → Stands old code ds branches budget → MayLeaveHere old → IsTurn b old new ds after
    → length after ≤ length ds → IsLeftAt b new (code ++ Leaf ∷ []) after branches budget
left b old new code ds after branches budget aim stands leaf turn fewer =
    subst (λ j. IsLeftAt b j (code ++ Leaf ∷ []) after branches budget) (sym aim)
    (left_at b old new.pair code ds after branches budget stands leaf
    (subst (λ j. IsTurn b old j ds after) aim turn) fewer)

-- a front has room for one more token
pub has_room : (judged : Judged) (code : List Token) (ds : List Decision) (branches budget : ℕ)
    → Stands judged code ds branches budget → length code < 2 * budget + 1
has_room judged code ds branches budget stands =
    let start = unset_pair judged.chip in
    let short = front_is_short (rules_for judged.chip judged.aim) code start judged.pair (still_later judged ds)
    stands.reads in
    let counted = stands.counted in let within = stands.within in omega arith

-- the branches of a code with one more leaf
pub leaf_within : (judged : Judged) (code : List Token) (ds : List Decision) (branches budget : ℕ)
    → Stands judged code ds branches budget → branch_count (code ++ Leaf ∷ []) ≤ budget
leaf_within judged code ds branches budget stands =
    let a = branch_count-append code (Leaf ∷ []) in
    let counted = stands.counted in let within = stands.within in omega arith

-- nothing but the pair changes
pub aim_of : (old new : Judged) (pair : List Trit) → new ≡ with_pair old pair → IsSameAim old new
aim_of old new pair e = e ∙ ap (λ p. with_pair old p) (sym (ap (λ j. j.pair) e))
