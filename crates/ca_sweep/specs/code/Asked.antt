-- What only proofs of code cite: what a finder is asked with.
use Rattle.std.specs.Prelude.{ℕ, ◌≡◌, List, length, slice_get, None, Some}
use Rattle.std.specs.List.{All}
use Rattle.ca_net.specs.declared.trit.Trit.{Trit}
use Rattle.ca_net.specs.Circuit.{IsWellFormed}
use Rattle.ca_net.specs.State.{value_at}
use Rattle.ca_cell.specs.List.{defects_of}
use Rattle.ca_flat.specs.declared.chip_defect.ChipDefect.{ChipDefect}
use Rattle.ca_flat.specs.Chip.{cell_at}
use Rattle.ca_flat.specs.Flat.{flat}
use Rattle.ca_flips.specs.Flips.{AreLastsOf}
use Rattle.ca_sim.specs.Seen.{Seen, AreNetWaves}
use Rattle.ca_view.specs.Linked.{IsPlacedDefect, place_in}
use Rattle.ca_sweep.specs.Seen.{Loaded}
use Rattle.ca_sweep.specs.Spans.{Spanned}
use Rattle.ca_sweep.specs.Found.{IsUndetectedBefore}

-- the waves and last values that were taken over are those of the pair
pub record IsAsked (seen : Seen) (loaded : Loaded) : Type 0 where
  pub chip_is : seen.chip ≡ loaded.chip
  pub lasts_are : AreLastsOf loaded.chip seen.pair (value_at loaded.lasts)
  pub waves_are : AreNetWaves loaded.chip None seen.pair loaded.waves
  pub good_is : IsWellFormed (flat loaded.chip None)

-- so they are, and the defects are of the chip
pub record AreAsked (seen : Seen) (defects : Spanned) (loaded : Loaded) : Type 0 where
  pub pair : IsAsked seen loaded
  pub chip_is : defects.chip ≡ loaded.chip
  pub placed : All (IsPlacedDefect loaded.chip (place_in loaded.places)) defects.list
  pub faulty_are : All (λ (defect : ChipDefect). IsWellFormed (flat loaded.chip (Some defect))) defects.list

-- each defect of the instance that stands at this place of its cell's list is detected nowhere
abbrev pub AreNowhereAt : List Trit → ℕ → ℕ → Loaded → Type 0
AreNowhereAt pair u at loaded = (defect : ChipDefect)
    → IsPlacedDefect loaded.chip (place_in loaded.places) defect → defect.instance ≡ u
    → slice_get (defects_of (cell_at loaded.chip u)) at ≡ Some defect.defect
    → IsWellFormed (flat loaded.chip (Some defect))
    → IsUndetectedBefore loaded.chip defect pair (length loaded.chip.outputs)
