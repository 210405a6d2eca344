-- The steps of an attempt, by what each call said of its result.
use Rattle.std.proofs.Common.{◌≡◌, ◌↔◌, ◌<◌, Bool, true, false, ℕ, List, length, Some, ap, sym, ◌∙◌, subst}
use Rattle.std.specs.Prelude.{slice_set, IsTrue}
use Rattle.std.proofs.lemmas.List.{length-set, ext_get_or}
use native.Mathlib.Decide.{ℕ_discrete}
use Rattle.ca_net.specs.declared.trit.Trit.{Trit}
use Rattle.ca_net.specs.declared.trit.Trit.TheVariants.{X}
use Rattle.ca_net.specs.State.{value_at}
use Rattle.ca_flat.proofs.Codes.{bit_itself, bit_other}
use Rattle.ca_search.proofs.WalkLemmas.{set_twice}
use Rattle.ca_flat.specs.declared.chip_defect.ChipDefect.{ChipDefect}
use Rattle.ca_flat.specs.Chip.{Chip}
use Rattle.ca_flat.specs.Pair.{IsShown}
use Rattle.ca_search.specs.FreeWay.{MaySet}
use Rattle.ca_search.specs.Judged.{with_pair, IsShownFor}
use Rattle.ca_search.specs.code.Judged.{MaySetFor, MaySetHere, IsUnshownHere}
use Rattle.ca_sim.specs.Seen.{Seen}
use Rattle.ca_confined.specs.Confined.{KeepsAim}
use Rattle.ca_guide.specs.Guide as guided
use Rattle.ca_guide.specs.Guide.{IsSupport}
use Rattle.ca_judge.specs.GuideSeen.{guide_seen}
use Rattle.ca_judge.specs.ChipJudge.{judged_of}
use Rattle.ca_judge.proofs.SeenLemmas.{unset_value}

-- what a search is given changes with the pair alone
pub tried_kept : (old new : Seen) (pair : List Trit) → new.pair ≡ pair → KeepsAim old new
    → judged_of new ≡ with_pair (judged_of old) pair
tried_kept old new pair is keeps =
    ap (λ c. record { chip = c; places = new.places; aim = new.aim; pair = new.pair }) keeps.chip.chip
    ∙ ap (λ at. record { chip = old.chip; places = at; aim = new.aim; pair = new.pair }) keeps.chip.places
    ∙ ap (λ a. record { chip = old.chip; places = old.places; aim = a; pair = new.pair }) keeps.aim
    ∙ ap (λ p. record { chip = old.chip; places = old.places; aim = old.aim; pair = p }) is

module _ (seen : Seen) (core : Chip) (defect : ChipDefect) (chip_is : seen.chip ≡ core) (aim_is : seen.aim ≡ Some defect) where
  -- what is said of the defect is said of the one that is aimed at
  pub unshown_here : (IsShown core defect seen.pair → ⊥) → IsUnshownHere (judged_of seen)
  unshown_here none shown = none (subst (λ a. IsShownFor core a seen.pair) aim_is (subst (λ c. IsShownFor c seen.aim seen.pair) chip_is shown))

  pub may_here : (bit : ℕ) → MaySet core defect seen.pair bit → MaySetHere (judged_of seen) bit
  may_here bit may = subst (λ c. MaySetFor c seen.aim seen.pair bit) (sym chip_is) (subst (λ a. MaySetFor core a seen.pair bit) (sym aim_is) may)

  pub shown_here : IsShown core defect seen.pair → IsShownFor seen.chip seen.aim seen.pair
  shown_here shown = subst (λ c. IsShownFor c seen.aim seen.pair) (sym chip_is) (subst (λ a. IsShownFor core a seen.pair) (sym aim_is) shown)

  -- what isn't said to be shown isn't
  pub unshown_if : (is_shown : Bool) → is_shown ≡ false
      → ((d : ChipDefect) → seen.aim ≡ Some d → IsTrue is_shown ↔ IsShown seen.chip d seen.pair)
      → IsShown core defect seen.pair → ⊥
  unshown_if is_shown not says shown =
      let is = (says defect aim_is).1 (subst (λ c. IsShown c defect seen.pair) (sym chip_is) shown) in
      let clash : false ≡ true = sym not ∙ is in cc

-- a bit that the guide sets may be set
pub set_may : (seen : Seen) (core : Chip) (defect : ChipDefect) (support : List ℕ) (bit : ℕ) → IsSupport core defect support
    → guided.IsUnsetIn support (guide_seen seen).bits bit → MaySet core defect seen.pair bit
set_may seen core defect support bit is unset = record { supports = (is bit).0 unset.listed; unset = unset_value seen.pair bit unset.unset }

-- a bit that is unset, and then set to what it was
pub set_again : (old mid new : List Trit) (bit : ℕ) (none value : Trit) → bit < length old → mid ≡ slice_set old bit none
    → new ≡ slice_set mid bit value → value ≡ value_at old bit → new ≡ old
set_again old mid new bit none value within unset set is =
    set ∙ ap (λ p. slice_set p bit value) unset ∙ set_twice old bit none value within
    ∙ ext_get_or X (slice_set old bit value) old (length-set old bit value) (λ n lt. elim (ℕ_discrete n bit) [
      | yes e ↦ subst (λ x. value_at (slice_set old bit value) x ≡ value_at old x) (sym e)
          (bit_itself old bit value within ∙ is)
      | no other ↦ bit_other old bit n value other
    ])
