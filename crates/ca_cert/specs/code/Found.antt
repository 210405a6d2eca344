-- The first detections of defects.
use Rattle.std.specs.Prelude.{ℕ, ◌≡◌, Bool, true, false, List, length, take, slice_get, slice_index_or}
use Rattle.std.specs.Prelude.{Option, None, Some}
use Rattle.ca_flat.specs.declared.chip_defect.ChipDefect.{ChipDefect}
use Rattle.ca_flat.specs.Chip.{Chip}
use Rattle.ca_claim.specs.declared.claim.Claim.{Claim}
use Rattle.ca_claim.specs.declared.claim.Claim.TheVariants.{Credited, Unexposable, Untestable, Aborted}
use Rattle.ca_flat.specs.Detection.{NoneDetects, IsFirstDetection}
use Rattle.ca_cert.specs.declared.detection.Detection.{Detection}

-- the claim speaks of detections by listed pairs
abbrev pub asks : Claim → Bool
asks (Credited pair output) = true
asks Unexposable = false
asks (Untestable code) = false
asks (Aborted code) = true

-- the first pair that detects the defect and the first output at which it does; or none of the first
-- `count` pairs does
abbrev pub IsFoundTo : Chip → ChipDefect → List (List Bool) → ℕ → Option Detection → Type 0
IsFoundTo chip defect pairs count None = NoneDetects chip defect (take count pairs)
IsFoundTo chip defect pairs count (Some found) = IsFirstDetection chip defect pairs found.pair found.output

-- so it is of the defect at the place, if the claim on it asks for that
abbrev pub IsFoundAt : Chip → List ChipDefect → List Claim → List (List Bool) → ℕ → List (Option Detection)
    → ℕ → Type 0
IsFoundAt chip defects claims pairs count found place = (defect : ChipDefect) (claim : Claim)
    → slice_get defects place ≡ Some defect → slice_get claims place ≡ Some claim → asks claim ≡ true
    → IsFoundTo chip defect pairs count (slice_index_or found place None)

-- so it is of all defects, after `count` pairs
pub record AreFound (chip : Chip) (defects : List ChipDefect) (claims : List Claim) (pairs : List (List Bool))
    (count : ℕ) (found : List (Option Detection)) : Type 0 where
  pub size : length found ≡ length claims
  pub each : (place : ℕ) → IsFoundAt chip defects claims pairs count found place
