-- What a simulator that was aimed at an untestable defect has to do with the one before, and the claim for its search.
use Rattle.std.proofs.Common.{◌≡◌, ℕ, Option, Some, sym, ◌∙◌, ap, subst}
use Rattle.std.specs.Prelude.{IsSomeAnd, Result, IfOk}
use Rattle.std.proofs.lemmas.Result.{IfOk-weaker}
use Rattle.ca_flat.specs.declared.chip_defect.ChipDefect.{ChipDefect}
use Rattle.ca_flat.specs.Chip.{Chip}
use Rattle.ca_sim.specs.Simulator.{Simulator, KeepsChip}
use Rattle.ca_search.specs.Judged.{Judged, IsSameAim}
use Rattle.ca_judge.specs.ChipJudge.{judged_of}
use Rattle.ca_credit.specs.Defects.{IsExposableIn, IsSearchable}
use Rattle.ca_credit.specs.Detection.{IsUntestable}
use Rattle.ca_claim.specs.declared.claim.Claim.{Claim}
use Rattle.ca_certify.specs.code.Claimed.{IsHopeless, IsSearchClaim, IsProvenClaim}

-- the defect that is aimed at now is hopeless
pub aimed_hopeless : (chip : Chip) (aimed : Judged) (defect : ChipDefect) → aimed.chip ≡ chip → aimed.aim ≡ Some defect
    → IsSearchable chip defect → IsUntestable chip defect → IsSomeAnd aimed.aim (IsHopeless aimed.chip)
aimed_hopeless chip aimed defect chip_is aim_is searchable untestable =
    let here : IsHopeless chip defect = record { searchable = searchable; untestable = untestable } in
    subst (λ (aim : Option ChipDefect). IsSomeAnd aim (IsHopeless aimed.chip)) (sym aim_is)
    (subst (λ (c : Chip). IsHopeless c defect) (sym chip_is) here)

-- what the search proves of it is proven of the defect
pub aimed_proven : {E : Type 0} (chip : Chip) (aimed : Judged) (budget : ℕ) (defect : ChipDefect) (result : Result Claim E)
    → aimed.chip ≡ chip → aimed.aim ≡ Some defect → IsExposableIn chip defect
    → IfOk result (λ claim. IsSomeAnd aimed.aim (λ d. IsSearchClaim aimed.chip budget d claim))
    → IfOk result (IsProvenClaim chip budget defect)
aimed_proven chip aimed budget defect result chip_is aim_is exposable searched =
    IfOk-weaker result (λ claim. IsSomeAnd aimed.aim (λ d. IsSearchClaim aimed.chip budget d claim)) (IsProvenClaim chip budget defect)
    (λ claim is.
    let here : IsSearchClaim aimed.chip budget defect claim =
    subst (λ (aim : Option ChipDefect). IsSomeAnd aim (λ d. IsSearchClaim aimed.chip budget d claim)) aim_is is in
    record {
      exposable = exposable;
      searched = subst (λ (c : Chip). IsSearchClaim c budget defect claim) chip_is here;
    }) searched

-- the chip is the same after a search
pub kept_after_search : (old aimed new : Simulator) → KeepsChip old aimed → IsSameAim (judged_of aimed.seen) (judged_of new.seen)
    → KeepsChip old new
kept_after_search old aimed new kept same = record {
  chip = ap (λ (judged : Judged). judged.chip) same ∙ kept.chip;
  places = ap (λ (judged : Judged). judged.places) same ∙ kept.places;
}
