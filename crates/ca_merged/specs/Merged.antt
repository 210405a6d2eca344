-- A chip in which some instances are merged into one, which is the last.
use Rattle.std.specs.Prelude.{ℕ, ◌≡◌, ◌<◌, not, List, [], ◌∷◌, ◌++◌, map, length}
use Rattle.std.specs.List.{Contains, AllPairs, filter, range_with_len}
use Rattle.ca_flat.specs.Chip.{Chip, Instance, instance_at, inputs_at, outputs_at, net_of, output_net}
use Rattle.ca_flat.specs.Chip.{count_of}
use Rattle.ca_merged.specs.Cluster.{is_member, cluster_inputs, cluster_outputs, cluster_cell}

-- an output pin of the instance u is on the net of an input pin of w
pub record FeedsInstance (chip : Chip) (u w : ℕ) : Type 0 where
  pub known : u < count_of chip
  pub fed_known : w < count_of chip
  pub output : ℕ
  pub output_within : output < outputs_at chip u
  pub pin : ℕ
  pub pin_within : pin < inputs_at chip w
  pub on : output_net chip u output ≡ net_of chip w pin

-- each instance of the list is fed by the one before it, and they lead from u to w
abbrev pub IsInstanceChain : Chip → ℕ → List ℕ → ℕ → Type 0
IsInstanceChain chip u [] w = FeedsInstance chip u w
IsInstanceChain chip u (next ∷ more) w = FeedsInstance chip u next × IsInstanceChain chip next more w

-- instances of the chip in their order, with every instance on a chain between two of them
pub record AreMembers (chip : Chip) (members : List ℕ) : Type 0 where
  pub known : (u : ℕ) → Contains members u → u < count_of chip
  pub ascending : AllPairs (λ a b. a < b) members
  pub closed : (u w : ℕ) (path : List ℕ) → Contains members u → Contains members w
      → IsInstanceChain chip u path w → (x : ℕ) → Contains path x → Contains members x

-- the instances that aren't members, in their order
unfoldable pub others : Chip → List ℕ → List ℕ
others chip members = filter (λ u. not (is_member members u)) (range_with_len 0 (count_of chip))

-- the members as one instance
abbrev pub cluster_of : Chip → List ℕ → Instance
cluster_of chip members =
    record {
      cell = cluster_cell chip members;
      pins = cluster_inputs chip members ++ cluster_outputs chip members;
    }

-- the place of the cluster in the merged chip
abbrev pub cluster_place : Chip → List ℕ → ℕ
cluster_place chip members = length (others chip members)

-- the merged chip
unfoldable pub merged : Chip → List ℕ → Chip
merged chip members = record {
  nets = chip.nets;
  instances = map (instance_at chip) (others chip members) ++ (cluster_of chip members ∷ []);
  inputs = chip.inputs;
  constants = chip.constants;
  outputs = chip.outputs;
}
