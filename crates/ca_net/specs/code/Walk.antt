-- What the search for paths does, from the end of one path onwards. Only the proofs of the code cite this.
use Rattle.std.specs.Prelude.{ℕ, Bool, true, false, ◌≡◌, ◌<◌, ◌≤◌, ◌⊎◌, List, min, slice_get, slice_index}
use Rattle.std.specs.Prelude.{slice_set, Some}
use Rattle.ca_net.specs.declared.trit.Trit.{Trit}
use Rattle.ca_net.specs.declared.device.Device.{Device}
use Rattle.ca_net.specs.declared.path_kind.PathKind.{PathKind}
use Rattle.ca_net.specs.Circuit.{Circuit, IsStorage}
use Rattle.ca_net.specs.State.{value_at}
use Rattle.ca_net.specs.Conduction.{Links}
use Rattle.ca_net.specs.Passing.{PassesAt}
use Rattle.ca_net.specs.Path.{Path, Root, Via, root_of, end_of, strength_of, IsPath, IsDefinite}
use Rattle.ca_net.specs.Response.{Reaches}

-- all nodes of the path but its root are storage nodes: the path stops at an input node
abbrev pub IsInner : Circuit → Path → Type 0
IsInner net (Root r) = Unit {0}
IsInner net (Via p d n) = IsStorage net n × IsInner net p

-- From the end `at` of a path of strength k, whose nodes are marked, the device i leads to the storage node m
-- that isn't marked; the longer path has strength l, which is at least the floor of m.
pub record IsHop (net : Circuit) (s : List Trit) (kind : PathKind) (floor : List ℕ) (on : List Bool)
    (at k i m l : ℕ) : Type 0 where
  pub device : Device
  pub is_device : slice_get net.devices i ≡ Some device
  pub links : Links device at m
  pub storage : IsStorage net m
  pub unmarked : slice_get on m ≡ Some false
  pub passes : PassesAt kind device.kind (value_at s device.gate.0)
  pub strength : l ≡ min k device.strength
  pub allowed : slice_index floor m ≤ l

-- some hops lead from the end `at` of a path of strength k to the end m of one of strength l
pub data Leads (net : Circuit) (s : List Trit) (kind : PathKind) (floor : List ℕ) : List Bool → ℕ → ℕ → ℕ → ℕ
    → Type 0 where
  Here : {on : List Bool} {at k m l : ℕ} → at ≡ m → k ≡ l → Leads net s kind floor on at k m l
  Onward : {on : List Bool} {at k m l : ℕ} (i next left : ℕ) → IsHop net s kind floor on at k i next left
      → Leads net s kind floor (slice_set on next true) next left m l → Leads net s kind floor on at k m l

-- the greatest strengths with which nodes were reached have become those with the paths that begin so
pub record Explores (net : Circuit) (s : List Trit) (kind : PathKind) (floor : List ℕ) (on : List Bool)
    (at k : ℕ) (old new : List ℕ) : Type 0 where
  pub kept : (m : ℕ) → slice_index old m ≤ slice_index new m
  pub reached : (m l : ℕ) → Leads net s kind floor on at k m l → l ≤ slice_index new m
  pub only : (m : ℕ) → (slice_index new m ≡ slice_index old m)
      ⊎ Leads net s kind floor on at k m (slice_index new m)

-- a definite path to m of strength l
pub record HasDefinite (net : Circuit) (s : List Trit) (m l : ℕ) : Type 0 where
  pub path : Path
  pub is_path : IsPath net path
  pub definite : IsDefinite s path
  pub ends : end_of path ≡ m
  pub strength : strength_of net path ≡ l

-- the strengths of the strongest definite paths to the nodes, among those from the first roots that stop at
-- input nodes
pub record AreStrongestFrom (net : Circuit) (s : List Trit) (roots : ℕ) (strongest : List ℕ) : Type 0 where
  pub above : (p : Path) → IsPath net p → IsInner net p → IsDefinite s p → root_of p < roots
      → strength_of net p ≤ slice_index strongest (end_of p)
  pub reached : (m : ℕ) → (slice_index strongest m ≡ 0) ⊎ HasDefinite net s m (slice_index strongest m)

-- the strengths of the strongest definite paths to the nodes, 0 past the last node
pub record AreStrongest (net : Circuit) (s : List Trit) (strongest : List ℕ) : Type 0 where
  pub above : (p : Path) → IsPath net p → IsDefinite s p
      → strength_of net p ≤ slice_index strongest (end_of p)
  pub reached : (m : ℕ) → (slice_index strongest m ≡ 0) ⊎ HasDefinite net s m (slice_index strongest m)

-- some path from this root reaches the node
pub record RootReaches (net : Circuit) (s : List Trit) (root node : ℕ) : Type 0 where
  pub path : Path
  pub from : root_of path ≡ root
  pub reaches : Reaches net s node path
