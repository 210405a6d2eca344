-- Words of the code: what is kept while wanted vectors are tried.
use Rattle.std.specs.Prelude.{◌≡◌, length}
use Rattle.ca_flat.specs.Chip.{Chip, count_of}
use Rattle.ca_planes.specs.Trits.{HasNodes}
use Rattle.ca_every_vector.specs.declared.wanted.Wide.{Wide}
use Rattle.ca_every_vector.specs.code.Inside.{AreTriedMarks}
use Rattle.ca_every_vector.specs.code.Lanes.{AreFixedLanes, AreSameLanes}

-- a mask and a mark for each instance, and values are known where constants give them alone
pub record IsKeptWide (chip : Chip) (wide : Wide) : Type 0 where
  pub masks_room : length wide.masks.items ≡ count_of chip
  pub tried_are : AreTriedMarks chip wide.masks.items wide.tried.items
  pub fixed_are : AreFixedLanes chip wide.fixed
  pub nodes : HasNodes (length chip.nets) wide.values
  pub other_nodes : HasNodes (length chip.nets) wide.others
  pub values_are : AreSameLanes wide.values wide.fixed
  pub others_are : AreSameLanes wide.others wide.fixed
  pub room : length wide.room.items ≡ 64
