-- The numbers of a chip's nets in its core, as a table.
use Rattle.std.specs.Prelude.{ℕ, ◌^◌, ◌≡◌, ◌<◌, List, length, slice_index}
use Rattle.ca_linked.specs.Linked.{LinkedChip, net_count}
use Rattle.ca_view.specs.Core.{core_net, core_of}

-- what a table of numbers is seen as: a number for each net, and how many nets the core has
pub record Numbers : Type 0 where
  pub numbers : List ℕ
  pub count : ℕ

-- each net has its number in the core, the count is that of the core's nets, and the chip has few
pub record AreCoreNumbers (chip : LinkedChip) (table : Numbers) : Type 0 where
  pub room : length table.numbers ≡ net_count chip
  pub each : (net : ℕ) → net < net_count chip → slice_index table.numbers net ≡ core_net chip net
  pub total : table.count ≡ length (core_of chip).nets
  pub few : net_count chip < 2 ^ 32
