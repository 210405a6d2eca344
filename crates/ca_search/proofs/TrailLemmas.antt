-- The steps of a search, by what each call said of its result.
use Rattle.std.proofs.Common.{◌≡◌, ℕ, ◌+◌, ◌*◌, ◌<◌, ◌≤◌, List, [], ◌∷◌, ◌++◌, length, Bool, true, false}
use Rattle.std.proofs.Common.{refl, sym, ◌∙◌, ap, subst, arith}
use Rattle.std.specs.Prelude.{not, slice_set}
use Rattle.std.proofs.lemmas.List.{length-append}
use Rattle.ca_net.specs.declared.trit.Trit.TheVariants.{X}
use Rattle.ca_flat.specs.declared.token.Token.TheVariants.{Branch, Leaf}
use Rattle.ca_flat.specs.Pair.{bit_count}
use Rattle.ca_flat.specs.Codes.{unset_pair, with_bit, branch_count, IsFrontBy, IsSpentBy}
use Rattle.ca_search.specs.declared.trail.Decision.{Decision}
use Rattle.ca_search.specs.Judged.{Judged, with_pair, IsSameAim}
use Rattle.ca_search.specs.code.Judged.{MayLeaveHere, MayDecideHere}
use Rattle.ca_code.specs.Tokens.{token_of, tokens_of}
use Rattle.ca_search.specs.declared.trail.Trail.{Trail}
use Rattle.ca_code.specs.SearchRules.{rules_for}
use Rattle.ca_search.specs.code.Steps.{AreFresh, Follows, still_later, Stands, TrailStands, IsEmptied, TurnsTo}
use Rattle.ca_search.specs.code.Steps.{IsTurn}
use Rattle.ca_search.specs.code.Steps.{IsLeft}
use Rattle.ca_code.proofs.TokenLemmas.{tokens_push, tokens_counted}
use Rattle.ca_search.proofs.WalkLemmas.{fresh_pop, length-pair_after, length-unset}
use Rattle.ca_search.proofs.StepLemmas.{begins, first_to, branched, TurnsBack, takes_back, turned, turns}
use Rattle.ca_search.proofs.StepLemmas.{turns_out, IsLeftAt, left, has_room, leaf_within, aim_of}

-- the search begins
pub begins_to : (old new : Judged) (numbers : List ℕ) (ds : List Decision) (budget : ℕ)
    → new ≡ with_pair old (unset_pair old.chip) → numbers ≡ [] → ds ≡ [] → Stands new (tokens_of numbers) ds 0 budget
begins_to old new numbers ds budget e no_number no_ds =
    subst (λ d. Stands new (tokens_of numbers) d 0 budget) (sym no_ds)
    (subst (λ n. Stands new (tokens_of n) [] 0 budget) (sym no_number)
    (subst (λ j. Stands j [] [] 0 budget) (sym e) (begins (with_pair old (unset_pair old.chip)) budget refl)))

-- a bit is decided
pub branched_to : (old new : Judged) (numbers longer : List ℕ) (ds more : List Decision)
    (branches budget bit number : ℕ) (first : Bool) → Stands old (tokens_of numbers) ds branches budget
    → MayDecideHere old bit → branches < budget → new ≡ with_pair old (with_bit old.pair bit first)
    → longer ≡ numbers ++ number ∷ [] → token_of number ≡ Branch bit first → more ≡ ds ++ first_to bit first ∷ []
    → Stands new (tokens_of longer) more (branches + 1) budget
branched_to old new numbers longer ds more branches budget bit number first stands may unspent e pushed is is_more =
    subst (λ d. Stands new (tokens_of longer) d (branches + 1) budget) (sym is_more)
    (subst (λ c. Stands new c (ds ++ first_to bit first ∷ []) (branches + 1) budget)
    (sym (tokens_push numbers longer number (Branch bit first) pushed is))
    (subst (λ j. Stands j (tokens_of numbers ++ Branch bit first ∷ []) (ds ++ first_to bit first ∷ []) (branches + 1) budget)
    (sym e) (branched old (tokens_of numbers) ds branches budget bit first stands may unspent)))

-- the decision that was popped is on a pattern bit
pub popped_within : (now : Judged) (ds rest : List Decision) (d : Decision) → Follows now ds → ds ≡ rest ++ d ∷ []
    → d.bit < bit_count now.chip
popped_within now ds rest d follows e =
    let unset = unset_pair now.chip in
    let fresh = fresh_pop rest d unset (subst (λ x. AreFresh x unset) e follows.fresh) in
    let l = length-pair_after rest unset in let k = length-unset now.chip in let w = fresh.within in omega arith

pub popped_fewer : (ds rest : List Decision) (d : Decision) → ds ≡ rest ++ d ∷ [] → length rest + 1 ≡ length ds
popped_fewer ds rest d e = let l = length-append rest (d ∷ []) in let k = ap length e in omega arith

-- a second decision is taken back
pub takes_back_to : (old now new : Judged) (before ds rest : List Decision) (d : Decision)
    → TurnsBack old now before ds → ds ≡ rest ++ d ∷ [] → d.is_second ≡ true
    → new ≡ with_pair now (slice_set now.pair d.bit X) → TurnsBack old new before rest
takes_back_to old now new before ds rest d back e second is_new =
    subst (λ j. TurnsBack old j before rest) (sym is_new)
    (takes_back old now before rest d (subst (TurnsBack old now before) e back) second)

-- a first decision is turned
pub turns_to : (old now new : Judged) (before ds rest more : List Decision) (d : Decision)
    → TurnsBack old now before ds → ds ≡ rest ++ d ∷ [] → d.is_second ≡ false
    → new ≡ with_pair now (with_bit now.pair d.bit (not d.value)) → more ≡ rest ++ turned d ∷ []
    → TurnsTo old new before more
turns_to old now new before ds rest more d back e first is_new is_more =
    subst (λ x. TurnsTo old new before x) (sym is_more)
    (subst (λ j. TurnsTo old j before (rest ++ turned d ∷ [])) (sym is_new)
    (turns old now before rest d (subst (TurnsBack old now before) e back) first))

-- no decision is left
pub turns_out_to : (old now : Judged) (before ds : List Decision) → TurnsBack old now before ds → length ds ≡ 0
    → still_later old before ≡ []
turns_out_to old now before [] back none = turns_out old now before back
turns_out_to old now before (d ∷ ds) back none = absurd (omega (arith, none))

-- a leaf is written
pub left_to : (b : Bool) (old new : Judged) (numbers longer : List ℕ) (ds after : List Decision)
    (branches budget same_branches same_budget number : ℕ) → IsSameAim old new
    → Stands old (tokens_of numbers) ds branches budget → MayLeaveHere old → IsTurn b old new ds after
    → length after ≤ length ds → longer ≡ numbers ++ number ∷ [] → token_of number ≡ Leaf
    → same_branches ≡ branches → same_budget ≡ budget
    → IsLeftAt b new (tokens_of longer) after same_branches same_budget
left_to b old new numbers longer ds after branches budget same_branches same_budget number aim stands leaf turn fewer
    pushed is f h =
    subst (λ n. IsLeftAt b new (tokens_of longer) after same_branches n) (sym h)
    (subst (λ n. IsLeftAt b new (tokens_of longer) after n budget) (sym f)
    (subst (λ c. IsLeftAt b new c after branches budget) (sym (tokens_push numbers longer number Leaf pushed is))
    (left b old new (tokens_of numbers) ds after branches budget aim stands leaf turn fewer)))

-- the numbers have room for one more
pub numbers_have_room : (judged : Judged) (numbers : List ℕ) (ds : List Decision) (branches budget : ℕ)
    → Stands judged (tokens_of numbers) ds branches budget → length numbers < 2 * budget + 1
numbers_have_room judged numbers ds branches budget stands =
    let room = has_room judged (tokens_of numbers) ds branches budget stands in
    let same = tokens_counted numbers in omega arith

-- the branches of a code with one more leaf
pub leaf_within_to : (judged : Judged) (numbers longer : List ℕ) (ds : List Decision) (branches budget number : ℕ)
    → Stands judged (tokens_of numbers) ds branches budget → longer ≡ numbers ++ number ∷ [] → token_of number ≡ Leaf
    → branch_count (tokens_of longer) ≤ budget
leaf_within_to judged numbers longer ds branches budget number stands pushed is =
    subst (λ c. branch_count c ≤ budget) (sym (tokens_push numbers longer number Leaf pushed is))
    (leaf_within judged (tokens_of numbers) ds branches budget stands)

-- the number of pattern bits is that of the chip all along
pub bits_stay : (old new : Judged) (bits : ℕ) → IsSameAim old new → bits ≡ bit_count old.chip → bits ≡ bit_count new.chip
bits_stay old new bits same is = is ∙ ap (λ (j : Judged). bit_count j.chip) (sym same)

-- after a leaf
pub left_trail : (b : Bool) (new : Judged) (trail : Trail)
    → IsLeftAt b new (tokens_of trail.numbers.items) trail.decisions.items trail.branches trail.budget
    → trail.bits ≡ bit_count new.chip → IsLeft b new trail
left_trail true new trail stands bits = record { stands = stands; bits = bits }
left_trail false new trail whole bits = whole

-- the code is a front that is at the pair in hand
pub front_of : (judged : Judged) (trail : Trail) → TrailStands judged trail
    → IsFrontBy (rules_for judged.chip judged.aim) judged.chip (tokens_of trail.numbers.items) judged.pair
front_of judged trail stands =
    record { later = still_later judged trail.decisions.items; reads = stands.stands.reads }

-- it is spent where all branches of the budget are there and one more could be
pub spent_of : (judged : Judged) (trail : Trail) (bit : ℕ) → TrailStands judged trail → MayDecideHere judged bit
    → trail.branches ≡ trail.budget
    → IsSpentBy (rules_for judged.chip judged.aim) judged.chip trail.budget (tokens_of trail.numbers.items)
spent_of judged trail bit stands may spent = record {
  pair = judged.pair;
  front = front_of judged trail stands;
  spent = sym stands.stands.counted ∙ spent;
  bit = bit;
  goes_on = may;
}

-- where a search has begun, its trail stands
pub trail_begins : (old new : Judged) (trail : Trail) → IsEmptied old trail → new ≡ with_pair old (unset_pair old.chip) → TrailStands new trail
trail_begins old new trail begun unset = record {
  stands = subst (λ n. Stands new (tokens_of trail.numbers.items) trail.decisions.items n trail.budget) (sym begun.branches)
      (begins_to old new _ _ _ unset begun.numbers begun.decisions);
  bits = bits_stay old new _ (aim_of old new _ unset) begun.bits;
}
