-- The turn after a leaf.
use Rattle.std.proofs.Common.{◌≡◌, ◌<◌, List, [], ◌∷◌, ◌++◌, length, Bool, true, false}
use Rattle.std.proofs.Common.{refl, sym, ◌∙◌, ap, subst, arith}
use Rattle.std.specs.Prelude.{not, cond, slice_set}
use Rattle.ca_net.specs.declared.trit.Trit.{Trit}
use Rattle.ca_net.specs.declared.trit.Trit.TheVariants.{X}
use Rattle.ca_flat.specs.Pair.{bit_count}
use Rattle.ca_flat.specs.Codes.{bit_trit, unset_pair, with_bit}
use Rattle.ca_read_code.specs.declared.walk.Decision.{Decision}
use Rattle.ca_read_code.specs.Examined.{Examined, with_pair, IsSameAim}
use Rattle.ca_read_code.specs.code.Walk.{pair_after, later_after, AreFresh, Follows, still_later, TurnsTo}
use Rattle.ca_read_code.proofs.WalkLemmas.{pair_after_push, later_after_push, fresh_push, fresh_pop}
use Rattle.ca_read_code.proofs.WalkLemmas.{length-pair_after, length-unset, set_twice, set_back}

-- all decisions that were taken back are second ones
pub record TurnsBack (old now : Examined) (before ds : List Decision) : Type 0 where
  pub aim : IsSameAim old now
  pub follows : Follows now ds
  pub left : still_later old before ≡ still_later now ds

pub turns_none : (old : Examined) (ds : List Decision) → Follows old ds → TurnsBack old old ds ds
turns_none old ds follows = record { aim = refl; follows = follows; left = refl }

-- what a decision leaves for later, by whether it is a second one
abbrev left_by : Examined → List Decision → Decision → Bool → List (List Trit)
left_by now ds d second =
    cond second (later_after ds (unset_pair now.chip) [])
    (with_bit (pair_after ds (unset_pair now.chip)) d.bit (not d.value) ∷ later_after ds (unset_pair now.chip) [])

takes_back : (old now : Examined) (before ds : List Decision) (d : Decision)
    → TurnsBack old now before (ds ++ d ∷ []) → d.is_second ≡ true
    → TurnsBack old (with_pair now (slice_set now.pair d.bit X)) before ds
takes_back old now before ds d back second =
    let unset = unset_pair now.chip in
    let fresh = fresh_pop ds d unset back.follows.fresh in
    record {
      aim = ap (λ j. with_pair j (slice_set now.pair d.bit X)) back.aim;
      follows = record {
        at = ap (λ pair. slice_set pair d.bit X) (back.follows.at ∙ pair_after_push ds d unset)
            ∙ set_back (pair_after ds unset) d.bit (bit_trit d.value) fresh.within fresh.unset;
        fresh = fresh.before;
      };
      left = back.left ∙ later_after_push ds d unset [] ∙ ap (left_by now ds d) second;
    }

-- the decision turned to its opposite
abbrev pub turned : Decision → Decision
turned d = record { bit = d.bit; value = not d.value; is_second = true }

turns : (old now : Examined) (before ds : List Decision) (d : Decision)
    → TurnsBack old now before (ds ++ d ∷ []) → d.is_second ≡ false
    → TurnsTo old (with_pair now (with_bit now.pair d.bit (not d.value))) before (ds ++ turned d ∷ [])
turns old now before ds d back not_second =
    let unset = unset_pair now.chip in
    let fresh = fresh_pop ds d unset back.follows.fresh in
    let same : with_bit now.pair d.bit (not d.value) ≡ with_bit (pair_after ds unset) d.bit (not d.value) =
    ap (λ pair. with_bit pair d.bit (not d.value)) (back.follows.at ∙ pair_after_push ds d unset)
    ∙ set_twice (pair_after ds unset) d.bit (bit_trit d.value) (bit_trit (not d.value)) fresh.within in
    record {
      follows = record {
        at = same ∙ sym (pair_after_push ds (turned d) unset);
        fresh = fresh_push ds (turned d) unset fresh.before fresh.within fresh.unset;
      };
      next = back.left ∙ later_after_push ds d unset [] ∙ ap (left_by now ds d) not_second
          ∙ ap (λ pair. pair ∷ later_after ds unset []) (sym same)
          ∙ ap (λ later. with_bit now.pair d.bit (not d.value) ∷ later) (sym (later_after_push ds (turned d) unset []));
    }

-- where no decision is left, none was a first one
turns_out : (old now : Examined) (before : List Decision) → TurnsBack old now before []
    → still_later old before ≡ []
unfolding later_after
turns_out old now before back = back.left

-- the decision that was popped is on a pattern bit
pub popped_within : (now : Examined) (ds rest : List Decision) (d : Decision) → Follows now ds → ds ≡ rest ++ d ∷ []
    → d.bit < bit_count now.chip
popped_within now ds rest d follows e =
    let unset = unset_pair now.chip in
    let fresh = fresh_pop rest d unset (subst (λ x. AreFresh x unset) e follows.fresh) in
    let l = length-pair_after rest unset in let k = length-unset now.chip in let w = fresh.within in omega arith

-- a second decision is taken back
pub takes_back_to : (old now new : Examined) (before ds rest : List Decision) (d : Decision)
    → TurnsBack old now before ds → ds ≡ rest ++ d ∷ [] → d.is_second ≡ true
    → new ≡ with_pair now (slice_set now.pair d.bit X) → TurnsBack old new before rest
takes_back_to old now new before ds rest d back e second is_new =
    subst (λ j. TurnsBack old j before rest) (sym is_new)
    (takes_back old now before rest d (subst (TurnsBack old now before) e back) second)

-- a first decision is turned
pub turns_to : (old now new : Examined) (before ds rest more : List Decision) (d : Decision)
    → TurnsBack old now before ds → ds ≡ rest ++ d ∷ [] → d.is_second ≡ false
    → new ≡ with_pair now (with_bit now.pair d.bit (not d.value)) → more ≡ rest ++ turned d ∷ []
    → TurnsTo old new before more
turns_to old now new before ds rest more d back e first is_new is_more =
    subst (λ x. TurnsTo old new before x) (sym is_more)
    (subst (λ j. TurnsTo old j before (rest ++ turned d ∷ [])) (sym is_new)
    (turns old now before rest d (subst (TurnsBack old now before) e back) first))

-- no decision is left
pub turns_out_to : (old now : Examined) (before ds : List Decision) → TurnsBack old now before ds → length ds ≡ 0
    → still_later old before ≡ []
turns_out_to old now before [] back none = turns_out old now before back
turns_out_to old now before (d ∷ ds) back none = absurd (omega (arith, none))

-- nothing but the pair changes
pub aim_of : (old new : Examined) (pair : List Trit) → new ≡ with_pair old pair → IsSameAim old new
aim_of old new pair e = e ∙ ap (λ p. with_pair old p) (sym (ap (λ j. j.pair) e))

-- one change after another
pub aim_on : (old mid new : Examined) → IsSameAim old mid → IsSameAim mid new → IsSameAim old new
aim_on old mid new first then = then ∙ ap (λ j. with_pair j new.pair) first
