-- The bridges of an instance as they are listed: only the proofs of the code cite this.
use Rattle.std.specs.Prelude.{ℕ, ◌+◌, ◌≡◌, ◌<◌, ◌≤◌, ◌⊎◌, List}
use Rattle.std.specs.List.{Contains, AllPairs}
use Rattle.ca_cluster.specs.declared.bridge.Bridge.{Bridge}
use Rattle.ca_cluster.specs.Bridges.{IsBefore}

-- the node is one of this many input pins
abbrev pub IsPin : ℕ → ℕ → Type 0
IsPin inputs n = (2 ≤ n) × (n < 2 + inputs)

-- a bridge of the instance u, whose cell has this many input pins and nodes
pub record IsPairOf (u inputs nodes : ℕ) (bridge : Bridge) : Type 0 where
  pub of : bridge.instance.0 ≡ u
  pub within : bridge.n.0 < nodes
  pub ordered : bridge.m.0 < bridge.n.0
  pub pin : IsPin inputs bridge.m.0 ⊎ IsPin inputs bridge.n.0

-- its nodes are before m and n
abbrev pub IsUpTo : ℕ → ℕ → Bridge → Type 0
IsUpTo m n bridge = (bridge.m.0 < m) ⊎ ((bridge.m.0 ≡ m) × (bridge.n.0 < n))

-- the list has those bridges of the instance whose nodes are before m and n, in their order
pub record AreFirst (u inputs nodes m n : ℕ) (list : List Bridge) : Type 0 where
  pub each : (bridge : Bridge) → IsPairOf u inputs nodes bridge → IsUpTo m n bridge → Contains list bridge
  pub only : (bridge : Bridge) → Contains list bridge → IsPairOf u inputs nodes bridge × IsUpTo m n bridge
  pub ascending : AllPairs IsBefore list
