-- A simulator of the same chip, and what is known of a defect of it.
use Rattle.std.proofs.Common.{◌≡◌, ℕ, List, sym, ◌∙◌, subst}
use Rattle.ca_flat.specs.declared.chip_defect.ChipDefect.{ChipDefect}
use Rattle.ca_flat.specs.Chip.{Chip}
use Rattle.ca_view.specs.Linked.{IsPlacedDefect, place_in}
use Rattle.ca_sim.specs.Simulator.{Simulator, KeepsChip}
use Rattle.ca_credit.specs.declared.verdict.Verdict.{Verdict}
use Rattle.ca_credit.specs.Defects.{IsSearchable}
use Rattle.ca_claim.specs.declared.claim.Claim.{Claim}
use Rattle.ca_certify.specs.code.Claimed.{IsKnown, IsClaimOn}

module _ (old now : Simulator) (kept : KeepsChip old now) where
  pub placed_kept : (defect : ChipDefect) → IsPlacedDefect old.seen.chip (place_in old.seen.places) defect
      → IsPlacedDefect now.seen.chip (place_in now.seen.places) defect
  placed_kept defect placed = subst (λ (c : Chip). IsPlacedDefect c (place_in now.seen.places) defect) (sym kept.chip)
      (subst (λ (p : List ℕ). IsPlacedDefect old.seen.chip (place_in p) defect) (sym kept.places) placed)

  pub searchable_kept : (defect : ChipDefect) → IsSearchable old.seen.chip defect → IsSearchable now.seen.chip defect
  searchable_kept defect searchable = subst (λ (c : Chip). IsSearchable c defect) (sym kept.chip) searchable

  pub known_kept : (defect : ChipDefect) (verdict : Verdict) → IsKnown old.seen.chip defect verdict → IsKnown now.seen.chip defect verdict
  known_kept defect verdict known = subst (λ (c : Chip). IsKnown c defect verdict) (sym kept.chip) known

  -- a claim on a defect of it is one on that defect of the first
  pub claim_kept : (was budget : ℕ) (defect : ChipDefect) (verdict : Verdict) (claim : Claim) → budget ≡ was
      → IsClaimOn now.seen.chip budget defect verdict claim → IsClaimOn old.seen.chip was defect verdict claim
  claim_kept was budget defect verdict claim is_budget on = subst (λ (c : Chip). IsClaimOn c was defect verdict claim) kept.chip
      (subst (λ (b : ℕ). IsClaimOn now.seen.chip b defect verdict claim) is_budget on)

-- and after two calls that keep it
pub kept_again : (first second third : Simulator) → KeepsChip first second → KeepsChip second third → KeepsChip first third
kept_again first second third before after = record { chip = after.chip ∙ before.chip; places = after.places ∙ before.places }
