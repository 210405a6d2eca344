-- What the room for the limits of a block holds.
use Rattle.std.specs.Prelude.{ℕ, ◌≡◌, length}
use Rattle.ca_net.specs.Circuit.{Circuit}
use Rattle.ca_planes.specs.Trits.{HasNodes}
use Rattle.ca_levels.specs.Levels as levels
use Rattle.ca_block.specs.declared.touched.Touched.{Touched}
use Rattle.ca_block.specs.declared.work.BlockWork.{BlockWork}
use Rattle.ca_block.specs.Groups as groups

-- each state has this many nodes
pub record HasStates (nodes : ℕ) (work : BlockWork) : Type 0 where
  pub first : HasNodes nodes work.first
  pub middle : HasNodes nodes work.middle
  pub last : HasNodes nodes work.last
  pub next : HasNodes nodes work.next
  pub known : HasNodes nodes work.known
  pub spare : HasNodes nodes work.spare
  pub firsts : HasNodes nodes work.firsts
  pub vector : HasNodes nodes work.vector

-- there is room for a mark for each of this many nodes and labels, and for this many devices
pub record HasTouchedRoom (nodes devices : ℕ) (touched : Touched) : Type 0 where
  pub changed : length touched.changed.items ≡ nodes
  pub marks : length touched.marks.items ≡ nodes
  pub chosen : length touched.chosen.items ≡ devices

-- there is room for networks with this many nodes and devices
pub record HasRoom (nodes devices : ℕ) (work : BlockWork) : Type 0 where
  pub states : HasStates nodes work
  pub levels_room : levels.HasRoom nodes devices work.levels
  pub groups_room : groups.HasRoom nodes devices work.groups
  pub touched_room : HasTouchedRoom nodes devices work.touched

-- there is room for the network, and what is read of it is there
pub record HoldsNet (net : Circuit) (work : BlockWork) : Type 0 where
  pub states : HasStates (length net.nodes) work
  pub levels_hold : levels.HoldsNetwork net work.levels
  pub groups_hold : groups.HoldsGroups net work.groups
  pub touched_room : HasTouchedRoom (length net.nodes) (length net.devices) work.touched
