-- A linked chip and its core as tables: the picture that the code has of a chip.
use Rattle.std.specs.Prelude.{ℕ, ◌^◌, ◌≡◌, ◌<◌, List}
use Rattle.ca_linked.specs.Linked as linked
use Rattle.ca_flat.specs.Chip.{Chip}
use Rattle.ca_flat.specs.Pair.{bit_count}
use Rattle.ca_view.specs.Core.{core_of, core_constants}
use Rattle.ca_view.specs.declared.constants.FixedNet.{FixedNet}
use Rattle.ca_view.specs.NetLists.{NetLists, AreNetsOf}
use Rattle.ca_view.specs.Constants.{constants_of}
use Rattle.ca_view.specs.Places.{AreRanks}
use Rattle.ca_view.specs.Readers.{AreRows}

-- The linked chip and its core, the rank of each instance, and in the numbers of the core the readers of each
-- net, the constants, the lists of nets, and the net of each observed output.
pub record Viewed : Type 0 where
  pub chip : linked.LinkedChip
  pub core : Chip
  pub ranks : List ℕ
  pub readers : List (List ℕ)
  pub constants : List FixedNet
  pub lists : NetLists
  pub outputs : List ℕ

-- the tables are those of this chip, whose core has few bits
pub record IsViewOf (chip : linked.LinkedChip) (view : Viewed) : Type 0 where
  pub chip_is : view.chip ≡ chip
  pub core_is : view.core ≡ core_of chip
  pub ranked : AreRanks chip view.ranks
  pub read : AreRows chip view.readers
  pub constants_are : constants_of view.constants ≡ core_constants chip
  pub nets : AreNetsOf (core_of chip) view.lists
  pub outputs_are : view.outputs ≡ (core_of chip).outputs
  pub few : bit_count (core_of chip) < 2 ^ 15
