-- The nets of a cluster's pins as tables: only the proofs of the code cite this.
use Rattle.std.specs.Prelude.{ℕ, ◌+◌, ◌≡◌, ◌<◌, Bool, List, length, slice_index_or}
use Rattle.std.specs.List.{filter, range_with_len}
use Rattle.ca_linked.specs.Linked.{LinkedChip, net_count}
use Rattle.ca_linked.specs.Paths.{AreMarks}
use Rattle.ca_merge.specs.declared.pins.ClusterNets.{ClusterNets}
use Rattle.ca_merge.specs.Draft.{drives_net, feeds_members}

-- of the first nets those that pass the test are listed, in net order; each net has a seat, from the first on
-- one for each listed net
pub record IsListed (test : ℕ → Bool) (first count : ℕ) (nets seats : List ℕ) : Type 0 where
  pub listed : nets ≡ filter test (range_with_len 0 count)
  pub room : length seats ≡ count
  pub each : (net : ℕ) → net < count
      → slice_index_or seats net 0 ≡ first + length (filter test (range_with_len 0 net))

-- the marks of the nets that members drive, and the nets of the input pins and of the output pins
pub record AreClusterNets (chip : LinkedChip) (members : List ℕ) (nets : ClusterNets) : Type 0 where
  pub driven : AreMarks (net_count chip) (drives_net chip members) nets.driven
  pub inputs : IsListed (feeds_members chip members) 2
      (net_count chip) nets.inputs.nets nets.inputs.seats.items
  pub outputs : IsListed (drives_net chip members) (2 + length nets.inputs.nets) (net_count chip)
      nets.outputs.nets nets.outputs.seats.items
