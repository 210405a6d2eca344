-- What only proofs of code cite: which detections were found, and which are still sought.
use Rattle.std.specs.Prelude.{ℕ, ◌+◌, ◌≡◌, ◌≢◌, ◌<◌, ◌≤◌, ◌↔◌, Bool, List, length, take, slice_get, slice_set}
use Rattle.std.specs.Prelude.{slice_index_or, Option, None, Some}
use Rattle.ca_places.specs.PlaceSet.{Has, HoldsUpTo, IsAsRoomy}
use Rattle.ca_flat.specs.declared.chip_defect.ChipDefect.{ChipDefect}
use Rattle.ca_flat.specs.Chip.{Chip}
use Rattle.ca_flat.specs.Detection.{NoneDetects, IsFirstDetection}
use Rattle.ca_read_code.specs.Examined.{Examined}
use Rattle.ca_cert.specs.declared.detection.Detection.{Detection}
use Rattle.ca_cert.specs.declared.detection.Sought.{Sought}
use Rattle.ca_cert.specs.Listed.{IsLook}

-- what was found of the defect at the place
abbrev pub found_at : Sought → ℕ → Option Detection
found_at sought place = slice_index_or sought.found.items place None

-- What was found are first detections. Of the defects at the places that are left nothing was found: none of
-- the first `pair` pairs detects them, nor does the next one those at the places before `from`.
pub record AreTried (chip : Chip) (defects : List ChipDefect) (pairs : List (List Bool)) (pair from : ℕ)
    (sought : Sought) : Type 0 where
  pub size : length sought.found.items ≡ length defects
  pub room : HoldsUpTo sought.left (length defects)
  pub within : (place : ℕ) → Has sought.left place → place < length defects
  pub unfound : (place : ℕ) → Has sought.left place → found_at sought place ≡ None
  pub first : (place : ℕ) (defect : ChipDefect) (found : Detection) → slice_get defects place ≡ Some defect
      → found_at sought place ≡ Some found → IsFirstDetection chip defect pairs found.pair found.output
  pub done : (place : ℕ) (defect : ChipDefect) → place < from → Has sought.left place
      → slice_get defects place ≡ Some defect → NoneDetects chip defect (take (pair + 1) pairs)
  pub rest : (place : ℕ) (defect : ChipDefect) → from ≤ place → Has sought.left place
      → slice_get defects place ≡ Some defect → NoneDetects chip defect (take pair pairs)

-- so after `count` pairs
abbrev pub AreSought : Chip → List ChipDefect → List (List Bool) → ℕ → Sought → Type 0
AreSought chip defects pairs count sought = AreTried chip defects pairs count 0 sought

-- what was found stays, and each place that was left is so still, or something was found there
pub record StaySought (old new : Sought) : Type 0 where
  pub none : (place : ℕ) → found_at new place ≡ None → found_at old place ≡ None
  pub left : (place : ℕ) → Has old.left place → found_at new place ≡ None → Has new.left place

-- the detection by the pair at this output was noted at the place, which is left no more
pub record Notes (pair place output : ℕ) (old new : Sought) : Type 0 where
  pub found : new.found.items
      ≡ slice_set old.found.items place (Some (record { pair = pair; output = output }))
  pub here : Has new.left place → ⊥
  pub others : (other : ℕ) → other ≢ place → Has new.left other ↔ Has old.left other
  pub room : IsAsRoomy new.left old.left

-- so it was, if there is one
abbrev pub IsNoted : ℕ → ℕ → Sought → Sought → Option ℕ → Type 0
IsNoted pair place old new None = new ≡ old
IsNoted pair place old new (Some output) = Notes pair place output old new

-- the pair was looked at for the defect at the place, and what was seen was noted
pub record LooksAt (examined : Examined) (defects : List ChipDefect) (pair place : ℕ) (old new : Sought)
    : Type 0 where
  pub output : Option ℕ
  pub look : IsLook examined defects place output
  pub noted : IsNoted pair place old new output
