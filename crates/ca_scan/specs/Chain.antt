-- Whole chains: scan instances from an input port to an output port, the scan-in of each on the scan-out of
-- the one before. Nothing else is on these nets.
use Rattle.std.specs.Prelude.{ℕ, ◌≡◌, ◌<◌, ◌≤◌, ◌+◌, Bool, true, false, eqb, if◌then◌else◌, List, [], ◌∷◌}
use Rattle.std.specs.Prelude.{length, map, Option, Some, None, IsSomeAnd, slice_get, option_to_list}
use Rattle.std.specs.List.{flat_map}
use Rattle.ca_linked.specs.declared.pins.ScanPin.{ScanPin}
use Rattle.ca_linked.specs.declared.pins.ScanPin.TheVariants.{Si, So}
use Rattle.ca_linked.specs.Linked.{LinkedChip, has}
use Rattle.ca_linked.specs.Instances.{HasOnPin, IsScan, pin_nets}

-- how often the net is in the list
unfoldable pub count_of : ℕ → List ℕ → ℕ
count_of net [] = 0
count_of net (other ∷ nets) = (if eqb net other then 1 else 0) + count_of net nets

-- how many pins of instances and how many bits of ports are on the net
abbrev pub ends_of : LinkedChip → ℕ → ℕ
ends_of chip net =
    count_of net (flat_map (λ part. pin_nets part.body) chip.parts)
    + count_of net (map (λ port. port.net) chip.ports)

-- the net has two ends: it joins a pin or port to another, and no other pin and no other port is on it
abbrev pub IsLink : LinkedChip → ℕ → Type 0
IsLink chip net = ends_of chip net ≡ 2

-- the instance u is a scan instance with this pin on the net
abbrev pub IsOnPin : LinkedChip → ScanPin → ℕ → ℕ → Type 0
IsOnPin chip pin u net = IsSomeAnd (slice_get chip.parts u) (λ part. HasOnPin pin net part.body)

-- bit p of the ports has this direction and is on the net
abbrev pub IsAtPort : LinkedChip → Bool → ℕ → ℕ → Type 0
IsAtPort chip input p net =
    IsSomeAnd (slice_get chip.ports p) (λ port. (port.is_input ≡ input) × (port.net ≡ net))

-- an output port is on the net
abbrev pub IsOut : LinkedChip → ℕ → Type 0
IsOut chip net = (p : ℕ) × IsAtPort chip false p net

-- from the net these scan instances run to an output port: the scan-in of the first is on the net, that of
-- each next one is on the scan-out of the one before, the scan-out of the last is on an output port, and each
-- of these nets is a link
abbrev pub RunsOut : LinkedChip → ℕ → List ℕ → Type 0
RunsOut chip net [] = IsLink chip net × IsOut chip net
RunsOut chip net (u ∷ chain) =
    (next : ℕ) × IsLink chip net × IsOnPin chip Si u net × IsOnPin chip So u next × RunsOut chip next chain

-- a whole chain from bit p of the ports, an input: it has a scan instance, and runs from the net of the bit
-- to an output port
pub record IsChainFrom (chip : LinkedChip) (p : ℕ) (chain : List ℕ) : Type 0 where
  pub net : ℕ
  pub at : IsAtPort chip true p net
  pub some : 1 ≤ length chain
  pub runs : RunsOut chip net chain

-- the chain that is whole and begins at bit p of the ports; or there is none
abbrev pub IsChainAt : LinkedChip → ℕ → Option (List ℕ) → Type 0
IsChainAt chip p (Some chain) = IsChainFrom chip p chain
IsChainAt chip p None = (chain : List ℕ) → IsChainFrom chip p chain → ⊥

-- the whole chains that begin at the first bits of the ports, in the order of these bits
pub record AreChainsOf (chip : LinkedChip) (count : ℕ) (chains : List (List ℕ)) : Type 0 where
  pub at_port : List (Option (List ℕ))
  pub room : length at_port ≡ count
  pub each : (p : ℕ) (found : Option (List ℕ)) → slice_get at_port p ≡ Some found → IsChainAt chip p found
  pub all : chains ≡ flat_map option_to_list at_port

-- the whole chains of the chip, in the order of their scan-in ports in the header
abbrev pub AreChains : LinkedChip → List (List ℕ) → Type 0
AreChains chip chains = AreChainsOf chip (length chip.ports) chains

-- the instance u is a scan instance
abbrev pub IsScanAt : LinkedChip → ℕ → Type 0
IsScanAt chip u = IsSomeAnd (slice_get chip.parts u) (λ part. IsScan part.body)

-- the instance is on some whole chain
pub record IsOnChain (chip : LinkedChip) (u : ℕ) : Type 0 where
  pub port : ℕ
  pub chain : List ℕ
  pub whole : IsChainFrom chip port chain
  pub there : has chain u ≡ true

-- each scan instance is on a whole chain
abbrev pub AreOnChains : LinkedChip → Type 0
AreOnChains chip = (u : ℕ) → IsScanAt chip u → IsOnChain chip u

-- the first scan instance, in netlist order, that is on no whole chain
pub record IsFirstOff (chip : LinkedChip) (u : ℕ) : Type 0 where
  pub scan : IsScanAt chip u
  pub off : IsOnChain chip u → ⊥
  pub none_before : (before : ℕ) → before < u → IsScanAt chip before → IsOnChain chip before
