-- What the code keeps for each net, and how it goes along a chain. Only the proofs of the code cite this.
use Rattle.std.specs.Prelude.{ℕ, zero, suc, ◌≡◌, ◌<◌, ◌≤◌, ◌+◌, true, eqb, if◌then◌else◌, List, [], ◌∷◌, ◌++◌}
use Rattle.std.specs.Prelude.{map, length, Option, Some, None, slice_get, slice_index, get_or}
use Rattle.std.specs.List.{flat_map}
use Rattle.ca_linked.specs.declared.instances.InstanceId.{InstanceId}
use Rattle.ca_linked.specs.declared.pins.ScanPin.TheVariants.{Si}
use Rattle.ca_linked.specs.declared.parts.Body.{Body}
use Rattle.ca_linked.specs.declared.parts.Body.TheVariants.{Gate, Scan}
use Rattle.ca_linked.specs.declared.parts.Part.{Part}
use Rattle.ca_linked.specs.declared.parts.PortBit.{PortBit}
use Rattle.ca_linked.specs.Linked.{LinkedChip, is_scan_path, path_nets}
use Rattle.ca_linked.specs.Instances.{scans_of}
use Rattle.ca_scan.specs.declared.joints.Joints.{Joints}
use Rattle.ca_scan.specs.declared.follow.Step.{Step}
use Rattle.ca_scan.specs.declared.follow.Step.TheVariants.{Broken, Out, Taken}
use Rattle.ca_scan.specs.Chain.{count_of, IsLink, IsOnPin, RunsOut, IsOnChain, AreOnChains, IsFirstOff}

-- the net of the scan-in of a scan instance
abbrev pub si_nets : Body → List ℕ
si_nets (Gate cell inputs outputs) = []
si_nets (Scan nets) = nets.si ∷ []

-- the net of the scan-out of a scan instance
abbrev pub so_nets : Body → List ℕ
so_nets (Gate cell inputs outputs) = []
so_nets (Scan nets) = nets.so ∷ []

-- the net of a bit of an input port
abbrev pub in_nets : PortBit → List ℕ
in_nets port = if port.is_input then port.net ∷ [] else []

-- the net of a bit of an output port
abbrev pub out_nets : PortBit → List ℕ
out_nets port = if port.is_input then [] else port.net ∷ []

-- how many input ports and scan-outs are on the net
abbrev pub drivers_of : LinkedChip → ℕ → ℕ
drivers_of chip net =
    count_of net (flat_map in_nets chip.ports)
    + count_of net (flat_map (λ part. so_nets part.body) chip.parts)

-- how many scan-ins are on the net
abbrev pub takers_of : LinkedChip → ℕ → ℕ
takers_of chip net = count_of net (flat_map (λ part. si_nets part.body) chip.parts)

-- how many output ports are on the net
abbrev pub outs_of : LinkedChip → ℕ → ℕ
outs_of chip net = count_of net (flat_map out_nets chip.ports)

-- the nets that an instance puts on the scan path
abbrev pub nets_at : Option Part → List ℕ
nets_at None = []
nets_at (Some part) = path_nets part.body

-- the nets that these instances put on the scan path
abbrev pub nets_of : LinkedChip → List ℕ → List ℕ
nets_of chip instances = flat_map (λ u. nets_at (slice_get chip.parts u)) instances

-- a number up to three, and three for each greater one
abbrev pub up_to_three : ℕ → ℕ
up_to_three zero = 0
up_to_three (suc zero) = 1
up_to_three (suc (suc zero)) = 2
up_to_three (suc (suc (suc n))) = 3

-- the count that a tally has of a number
abbrev pub tally_at : List ℕ → ℕ → ℕ
tally_at tally n = slice_index tally n

-- the tally has how often each number is among these, up to three
abbrev pub Counts : List ℕ → List ℕ → Type 0
Counts tally numbers = (n : ℕ) → tally_at tally n ≡ up_to_three (count_of n numbers)

-- these numbers were added to whatever the tally had
abbrev pub Adds : List ℕ → List ℕ → List ℕ → Type 0
Adds more old new = (numbers : List ℕ) → Counts old numbers → Counts new (numbers ++ more)

-- the taker of a net
abbrev pub taker_at : List (Option ℕ) → ℕ → Option ℕ
taker_at takers net = get_or takers net None

-- the instance is now the taker of the net, and other nets have those that they had
abbrev pub SetsTaker : ℕ → ℕ → List (Option ℕ) → List (Option ℕ) → Type 0
SetsTaker net u old new = (n : ℕ) → taker_at new n ≡ (if eqb n net then Some u else taker_at old n)

-- this instance has its scan-in on the net; or none of the first scan instances has
abbrev pub IsTakerAmong : LinkedChip → ℕ → ℕ → Option ℕ → Type 0
IsTakerAmong chip count net (Some u) = IsOnPin chip Si u net
IsTakerAmong chip count net None =
    (k u : ℕ) → k < count → slice_get (scans_of chip) k ≡ Some u → IsOnPin chip Si u net → ⊥

-- each net has its taker
abbrev pub AreTakersAmong : LinkedChip → ℕ → List (Option ℕ) → Type 0
AreTakersAmong chip count takers = (net : ℕ) → IsTakerAmong chip count net (taker_at takers net)

-- what is kept of the nets: how many ends are on each net of the scan path, how many output ports on each
-- net, and for each net a scan instance that has its scan-in there
pub record AreJoints (chip : LinkedChip) (joints : Joints) : Type 0 where
  pub ends : Counts joints.ends (nets_of chip (scans_of chip) ++ map (λ port. port.net) chip.ports)
  pub outs : Counts joints.outs (flat_map out_nets chip.ports)
  pub takers : AreTakersAmong chip (length (scans_of chip)) joints.takers

-- where a net of the scan path leads: nowhere, to an output port, or to the scan-in of an instance
abbrev pub IsStep : LinkedChip → ℕ → Step → Type 0
IsStep chip net Broken = (chain : List ℕ) → RunsOut chip net chain → ⊥
IsStep chip net Out = RunsOut chip net []
IsStep chip net (Taken u) = IsLink chip net × IsOnPin chip Si u.0 net

-- the run from a net, or there is none
abbrev pub IsRun : LinkedChip → ℕ → Option (List ℕ) → Type 0
IsRun chip net (Some chain) = RunsOut chip net chain
IsRun chip net None = (chain : List ℕ) → RunsOut chip net chain → ⊥

-- these scan instances lead from the first net to the other one, where each run from the first one goes on
pub record IsFollowed (chip : LinkedChip) (start : ℕ) (done : List ℕ) (net : ℕ) : Type 0 where
  pub driven : 1 ≤ drivers_of chip net
  pub on_path : is_scan_path chip net ≡ true
  pub on : (rest : List ℕ) → RunsOut chip net rest → RunsOut chip start (done ++ rest)
  pub back : (chain : List ℕ) → RunsOut chip start chain
      → (rest : List ℕ) × (chain ≡ done ++ rest) × RunsOut chip net rest

-- the instances of all these chains
abbrev pub all_of : List (List ℕ) → List ℕ
all_of chains = flat_map (λ chain. chain) chains

-- the first scan instance that is on no whole chain; or each is on one
abbrev pub IsFirstOffIn : LinkedChip → Option InstanceId → Type 0
IsFirstOffIn chip None = AreOnChains chip
IsFirstOffIn chip (Some u) = IsFirstOff chip u.0

-- each of the first scan instances is on a whole chain
abbrev pub AreOnChainsBefore : LinkedChip → ℕ → Type 0
AreOnChainsBefore chip count = (k u : ℕ) → k < count → slice_get (scans_of chip) k ≡ Some u → IsOnChain chip u
