-- Which library instances feed which, as the code keeps it: only the proofs of the code cite this.
use Rattle.std.specs.Prelude.{ℕ, ◌≡◌, ◌<◌, List, length, Some}
use Rattle.ca_linked.specs.declared.drivers.Sources.{Sources}
use Rattle.ca_linked.specs.Linked.{Source, LinkedChip, net_count, Drives}
use Rattle.ca_linked.specs.Drivers.{IsOnly, sources_at}

-- the table has this one as the first that drives the net, and it is the only one
pub record IsDrivenBy (chip : LinkedChip) (table : List Sources) (net : ℕ) : Type 0 where
  pub source : Source
  pub reported : (sources_at table net).first ≡ Some source
  pub only : IsOnly (Drives chip net) source

-- each net has one driver, which the table gives
pub record AreSingle (chip : LinkedChip) (table : List Sources) : Type 0 where
  pub count : length table ≡ net_count chip
  pub each : (net : ℕ) → net < net_count chip → IsDrivenBy chip table net
