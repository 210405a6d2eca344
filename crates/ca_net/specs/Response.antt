-- Which paths are blocked, and the response of a node (Bryant 1984, blocked paths and the steady state
-- response).
use Rattle.std.specs.Prelude.{ℕ, ◌≡◌, ◌<◌, ◌⊎◌, List, length}
use Rattle.ca_net.specs.declared.trit.Trit.{Trit}
use Rattle.ca_net.specs.declared.trit.Trit.TheVariants.{Zero, One, X}
use Rattle.ca_net.specs.declared.node.NodeKind.{NodeKind}
use Rattle.ca_net.specs.declared.node.NodeKind.TheVariants.{Input, Storage}
use Rattle.ca_net.specs.Circuit.{Circuit, kind_at}
use Rattle.ca_net.specs.State.{IsState, value_at}
use Rattle.ca_net.specs.Path.{Path, Root, Via, root_of, end_of, strength_of, IsPath, IsPotential, IsDefinite}

-- some definite path to n is stronger than k
pub record HasStronger (net : Circuit) (s : List Trit) (n k : ℕ) : Type 0 where
  pub path : Path
  pub is_path : IsPath net path
  pub ends : end_of path ≡ n
  pub definite : IsDefinite s path
  pub stronger : k < strength_of net path

-- at some node of the path, its root and its end included, a definite path to that node is stronger than the
-- path's own part up to it
abbrev pub IsBlocked : Circuit → List Trit → Path → Type 0
IsBlocked net s (Root r) = HasStronger net s r (strength_of net (Root r))
IsBlocked net s (Via p d n) = IsBlocked net s p ⊎ HasStronger net s n (strength_of net (Via p d n))

-- a path by which the value of its root may reach n: no device of it is open, and it isn't blocked
pub record Reaches (net : Circuit) (s : List Trit) (n : ℕ) (p : Path) : Type 0 where
  pub is_path : IsPath net p
  pub ends : end_of p ≡ n
  pub potential : IsPotential s p
  pub unblocked : IsBlocked net s p → ⊥

-- every path that reaches n has a root of value v
abbrev pub AllGive : Circuit → List Trit → ℕ → Trit → Type 0
AllGive net s n v = (p : Path) → Reaches net s n p → value_at s (root_of p) ≡ v

-- a storage node responds with v in {0, 1} where every path that reaches it has a root of value v, else with
-- X
abbrev pub StorageResponse : Circuit → List Trit → ℕ → Trit → Type 0
StorageResponse net s n Zero = AllGive net s n Zero
StorageResponse net s n One = AllGive net s n One
StorageResponse net s n X = (AllGive net s n Zero → ⊥) × (AllGive net s n One → ⊥)

-- an input node responds with its value
abbrev pub ResponseAt : NodeKind → Circuit → List Trit → ℕ → Trit → Type 0
ResponseAt Input net s n v = v ≡ value_at s n
ResponseAt (Storage size) net s n v = StorageResponse net s n v

-- v is the response of the node n in the state s
abbrev pub IsResponse : Circuit → List Trit → ℕ → Trit → Type 0
IsResponse net s n v = ResponseAt (kind_at net n) net s n v

-- the state new holds the response of every node in the state old
pub record AreResponses (net : Circuit) (old new : List Trit) : Type 0 where
  pub is_state : IsState net new
  pub responds : (n : ℕ) → n < length net.nodes → IsResponse net old n (value_at new n)

-- a definite path to n that isn't blocked
pub record HasUnblocked (net : Circuit) (s : List Trit) (n : ℕ) : Type 0 where
  pub path : Path
  pub is_path : IsPath net path
  pub ends : end_of path ≡ n
  pub definite : IsDefinite s path
  pub unblocked : IsBlocked net s path → ⊥
