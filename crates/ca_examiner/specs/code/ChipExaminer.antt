-- Words of the code beside those of `specs/ChipExaminer.antt`. Private functions and proofs cite them.
use Rattle.std.specs.Prelude.{ℕ, ◌^◌, ◌≡◌, ◌<◌, Bool, true, List, length, Option, None, Some}
use Rattle.std.specs.List.{All, Contains}
use Rattle.ca_net.specs.declared.trit.Trit.TheVariants.{X}
use Rattle.ca_net.specs.State.{value_at}
use Rattle.ca_flat.specs.declared.chip_defect.ChipDefect.{ChipDefect}
use Rattle.ca_flat.specs.Chip.{Chip}
use Rattle.ca_flat.specs.Chain.{IsSupportBit}
use Rattle.ca_flat.specs.Codes.{MayBranch}
use Rattle.ca_view.specs.Linked.{IsPlacedDefect}
use Rattle.ca_sweep.specs.Spans.{Spanned}
use Rattle.ca_sim.specs.Seen.{Seen}
use Rattle.ca_examiner.specs.code.Order.{IsOrder}
use Rattle.ca_examiner.specs.code.Sweep.{HasOpenChain}
use Rattle.ca_examiner.specs.code.Support.{AreLeadingNets}
use Rattle.ca_examiner.specs.ChipExaminer.{AreNetworks, Examining}

-- what is seen is seen of the chip, and of the defect that is aimed at
pub record IsSeenOf (chip : Chip) (place_of : ℕ → ℕ) (seen : Seen) (defect : ChipDefect) : Type 0 where
  pub same : seen.chip ≡ chip
  pub aim : seen.aim ≡ Some defect
  pub defect_is : IsPlacedDefect chip place_of defect
  pub networks : AreNetworks chip

-- an open chain leads from the instance u to some observed output
pub record ReachesOutput (chip : Chip) (open_nets : List Bool) (u : ℕ) : Type 0 where
  pub output : ℕ
  pub observed : Contains chip.outputs output
  pub reaches : HasOpenChain chip open_nets u output

-- some bit of the support is unset
pub record HasUnset (seen : Seen) (defect : ChipDefect) : Type 0 where
  pub bit : ℕ
  pub supports : IsSupportBit seen.chip defect bit
  pub unset : value_at seen.pair bit ≡ X

-- a branch on some bit may stand
pub record CanBranch (seen : Seen) (defect : ChipDefect) : Type 0 where
  pub bit : ℕ
  pub may : MayBranch seen.chip defect seen.pair bit

-- the nets that lead to the outputs which the defect that is aimed at reaches are marked
abbrev pub IsAimed : Chip → (ℕ → ℕ) → List Bool → Option ChipDefect → Type 0
IsAimed chip place_of leading None = length leading ≡ length chip.nets
IsAimed chip place_of leading (Some defect) =
    IsPlacedDefect chip place_of defect × AreLeadingNets chip defect.instance leading

-- what the fields of an examiner keep
pub record IsChipExaminer (chip : Chip) (place_of : ℕ → ℕ) (aim : Option ChipDefect) (rows_chip : Chip)
    (outputs : List ℕ) (order : List (Option ℕ)) (all_nets open_nets marks leading : List Bool)
    (defect : Option ChipDefect) : Type 0 where
  pub networks : AreNetworks chip
  pub rows_are : rows_chip ≡ chip
  pub outputs_are : outputs ≡ chip.outputs
  pub few_outputs : length outputs < 2 ^ 32
  pub order_is : IsOrder chip place_of order
  pub all : All (λ mark. mark ≡ true) all_nets
  pub all_count : length all_nets ≡ length chip.nets
  pub open_count : length open_nets ≡ length chip.nets
  pub marks_count : length marks ≡ length chip.nets
  pub aim_is : aim ≡ defect
  pub aimed : IsAimed chip place_of leading defect

-- the list is of the chip's defects that can be aimed at, fewer than 2^32
pub record IsListing (chip : Chip) (place_of : ℕ → ℕ) (defects : Spanned) : Type 0 where
  pub chip_is : defects.chip ≡ chip
  pub placed : All (IsPlacedDefect chip place_of) defects.list
  pub few : length defects.list < 2 ^ 32

-- the chip, the bits and the list stay
pub record KeepsBits (old new : Examining) : Type 0 where
  pub chip : new.seen.chip ≡ old.seen.chip
  pub places : new.seen.places ≡ old.seen.places
  pub pair : new.seen.pair ≡ old.seen.pair
  pub listed : new.listed ≡ old.listed
