-- What only proofs of code cite: what the fields of a simulator keep.
use Rattle.std.specs.Prelude.{ℕ, Option, ◌≡◌}
use Rattle.ca_flat.specs.declared.chip_defect.ChipDefect.{ChipDefect}
use Rattle.ca_flat.specs.Chip.{Chip}
use Rattle.ca_flat.specs.Codes.{unset_pair}
use Rattle.ca_view.specs.Linked.{IsLinked, IsAim}
use Rattle.ca_sim.specs.declared.cells.Cells.{Cells}
use Rattle.ca_sim.specs.code.Cells.{AreCells}
use Rattle.ca_sim.specs.declared.networks.Networks.{Networks}
use Rattle.ca_sim.specs.code.Networks.{AreAtRest}
use Rattle.ca_sim.specs.code.Current.{AreUnset}
use Rattle.ca_sim.specs.declared.loaded.Loaded.{Loaded}
use Rattle.ca_sim.specs.code.Loaded.{AreLoaded}

-- both networks have the waves of the bits, those without any and those of the pair that was loaded last are
-- kept, and the rooms are those of the chip's cells
pub record IsKept (chip : Chip) (place_of number_of : ℕ → ℕ) (aim : Option ChipDefect) (nets : Networks)
    (unset loaded : Loaded) (cells : Cells) : Type 0 where
  pub linked : IsLinked chip place_of number_of
  pub aim_is : IsAim chip place_of aim
  pub rest : AreAtRest chip place_of aim nets
  pub no_bit : unset.bits ≡ unset_pair chip
  pub unset_are : AreUnset chip unset.waves
  pub loaded_are : AreLoaded chip loaded
  pub rooms : AreCells chip place_of number_of cells
