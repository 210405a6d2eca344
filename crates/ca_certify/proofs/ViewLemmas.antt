-- The chip that is viewed can be judged, and its defects searched for.
use Rattle.std.proofs.Common.{◌≡◌, ℕ, List, Option, None, Some, sym, subst, arith}
use Rattle.std.specs.List.{All}
use Rattle.std.proofs.lemmas.List.Elements.{All-weaker}
use Rattle.ca_flat.specs.declared.chip_defect.ChipDefect.{ChipDefect}
use Rattle.ca_flat.specs.Chip.{Chip}
use Rattle.ca_linked.specs.Linked.{IsWired}
use Rattle.ca_view.specs.Core.{core_of}
use Rattle.ca_flatten.specs.Few.{IsFew}
use Rattle.ca_flatten.specs.Laws.{FlatIsWellFormed}
use Rattle.ca_view.specs.View.{Viewed, IsViewOf}
use Rattle.ca_view.specs.Linked.{IsLinked, IsPlacedDefect, place_in}
use Rattle.ca_sim.specs.Simulator.{Simulator, IsFresh}
use Rattle.ca_judge.specs.ChipJudge.{CanBeJudged}
use Rattle.ca_credit.specs.declared.verdict.Verdict.{Verdict}
use Rattle.ca_credit.specs.Defects.{IsSearchable}
use Rattle.ca_certify.specs.code.Claimed.{AreKnown}

-- its flat networks are networks where they are small enough
pub core_can_be_judged : (view : Viewed) → IsWired view.chip → FlatIsWellFormed
    → ((given : Option ChipDefect) → IsFew (core_of view.chip) given) → IsViewOf view.chip view → CanBeJudged view.core
core_can_be_judged view wired law few are = subst CanBeJudged (sym are.core_is) (record {
  few = let few_bits = are.few in omega (arith, few_bits);
  good_is = law view.chip None wired tt (few None);
  faulty_are = λ defect one. law view.chip (Some defect) wired one (few (Some defect));
})

-- defects of instances that have a place may be searched for
pub all_searchable : (core : Chip) (places : List ℕ) (number_of : ℕ → ℕ) (defects : List ChipDefect) → IsLinked core (place_in places) number_of
    → CanBeJudged core → All (IsPlacedDefect core (place_in places)) defects → All (IsSearchable core) defects
all_searchable core places number_of defects linked judged placed = All-weaker (IsPlacedDefect core (place_in places)) (IsSearchable core)
    (λ defect one. record {
      rank = place_in places;
      is_flat = record {
        chip_is = linked.is_chip;
        defect_is = one.defect_is;
        good_is = judged.good_is;
        faulty_is = judged.faulty_are defect one.defect_is;
      };
    }) defects placed

module _ (core : Chip) (places : List ℕ) (sim : Simulator) (fresh : IsFresh core places sim) where
  -- what is known of the chip's defects is so of those of a fresh simulator
  pub fresh_placed : (defects : List ChipDefect) → All (IsPlacedDefect core (place_in places)) defects
      → All (IsPlacedDefect sim.seen.chip (place_in sim.seen.places)) defects
  fresh_placed defects placed = subst (λ (c : Chip). All (IsPlacedDefect c (place_in sim.seen.places)) defects) (sym fresh.chip_is)
      (subst (λ (p : List ℕ). All (IsPlacedDefect core (place_in p)) defects) (sym fresh.places_are) placed)

  pub fresh_searchable : (defects : List ChipDefect) → All (IsSearchable core) defects → All (IsSearchable sim.seen.chip) defects
  fresh_searchable defects all = subst (λ (c : Chip). All (IsSearchable c) defects) (sym fresh.chip_is) all

  pub fresh_known : (listed defects : List ChipDefect) (verdicts : List Verdict) → defects ≡ listed → AreKnown core listed verdicts
      → AreKnown sim.seen.chip defects verdicts
  fresh_known listed defects verdicts are known = subst (λ (c : Chip). AreKnown c defects verdicts) (sym fresh.chip_is)
      (subst (λ (l : List ChipDefect). AreKnown core l verdicts) (sym are) known)
