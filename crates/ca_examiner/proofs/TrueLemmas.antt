-- Where the check of a chip answers yes, its claims are true.
use Rattle.std.proofs.Common.{◌≡◌, ℕ, List, length, Bool, Some, Ok, Err, Result, IfOk, sym, subst, slice_get, All}
use Rattle.std.proofs.lemmas.Option.{slice_get_within, get_or_from_slice_get}
use Rattle.ca_base.specs.declared.no_memory.NoMemory.{NoMemory}
use Rattle.ca_flat.specs.declared.chip_defect.ChipDefect.{ChipDefect}
use Rattle.ca_flat.specs.Chip.{Chip, IsChip}
use Rattle.ca_flat.specs.Waves.{IsFlatChip}
use Rattle.ca_view.specs.Linked.{IsPlacedDefect}
use Rattle.ca_claim.specs.declared.claim.Claim.{Claim}
use Rattle.ca_claim.specs.declared.certificate.Answer.{Answer}
use Rattle.ca_claim.specs.declared.certificate.Answer.TheVariants.{Yes, No}
use Rattle.ca_claim.specs.Stands.{IsAnswer}
use Rattle.ca_claim.specs.Laws.{StandingClaimsAreTrue, IsYesTrue}
use Rattle.ca_examiner.specs.ChipExaminer.{AreNetworks}

module _ (chip : Chip) (place_of : ℕ → ℕ) (defects : List ChipDefect) (is_chip : IsChip chip place_of)
    (networks : AreNetworks chip) (placed : All (IsPlacedDefect chip place_of) defects) where
  -- each listed defect is one of a chip that can be flattened
  each_flat : (place : ℕ) (defect : ChipDefect) → slice_get defects place ≡ Some defect
      → IsFlatChip chip place_of defect
  each_flat place defect at =
      let there : IsPlacedDefect chip place_of defect =
      subst (IsPlacedDefect chip place_of) (get_or_from_slice_get defects place defect defect at)
      (placed place defect (slice_get_within defects place defect at)) in
      record {
        chip_is = is_chip;
        defect_is = there.defect_is;
        good_is = networks.good_is;
        faulty_is = networks.faulty_are defect there.defect_is;
      }

  pub yes_is_true : (pairs : List (List Bool)) (budget : ℕ) (claims : List Claim) → StandingClaimsAreTrue
      → length defects ≡ length claims → (result : Result Answer NoMemory)
      → IfOk result (IsAnswer chip defects pairs budget claims)
      → IfOk result (IsYesTrue chip defects pairs budget claims)
  yes_is_true pairs budget claims law one_each (Ok Yes) stand =
      law chip place_of defects pairs budget claims each_flat (sym one_each) stand
  yes_is_true pairs budget claims law one_each (Ok (No defect)) stand = tt
  yes_is_true pairs budget claims law one_each (Err none) stand = tt
