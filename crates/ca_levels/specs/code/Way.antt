-- Ways: paths of one kind from some roots, that aren't blocked. Both the definite paths to a node and the
-- paths by which a value may reach it are ways. Only the proofs of the code cite this.
use Rattle.std.specs.Prelude.{ℕ, ◌≡◌, ◌≢◌, ◌<◌, ◌↔◌, true, List, length}
use Rattle.ca_net.specs.declared.trit.Trit.{Trit}
use Rattle.ca_net.specs.declared.path_kind.PathKind.{PathKind}
use Rattle.ca_net.specs.declared.path_kind.PathKind.TheVariants.{Potential}
use Rattle.ca_net.specs.Circuit.{Circuit}
use Rattle.ca_net.specs.State.{value_at}
use Rattle.ca_net.specs.Path.{Path, Root, Via, root_of, end_of, strength_of, IsPath}
use Rattle.ca_net.specs.Response.{HasStronger}
use Rattle.ca_relax.specs.code.Spread.{Passes}
use Rattle.ca_planes.specs.Plane.{lane_at}

-- each device of the path passes, and at no node is the path's own part up to it blocked, which depends on
-- the node and on the part's strength
abbrev pub IsFree : Circuit → List Trit → PathKind → (ℕ → ℕ → Type 0) → Path → Type 0
IsFree net s kind Blocks (Root r) = Blocks r (strength_of net (Root r)) → ⊥
IsFree net s kind Blocks (Via p d n) =
    IsFree net s kind Blocks p × Passes s kind d × (Blocks n (strength_of net (Via p d n)) → ⊥)

-- a free path from one of these roots to n, stronger than k
pub record HasWay (net : Circuit) (s : List Trit) (kind : PathKind) (Blocks : ℕ → ℕ → Type 0)
    (Begins : ℕ → Type 0) (n k : ℕ) : Type 0 where
  pub path : Path
  pub is_path : IsPath net path
  pub free : IsFree net s kind Blocks path
  pub begins : Begins (root_of path)
  pub ends : end_of path ≡ n
  pub stronger : k < strength_of net path

-- a path of another value that reaches n and is stronger than k
abbrev pub HasOther : Circuit → List Trit → Trit → ℕ → ℕ → Type 0
HasOther net s value = HasWay net s Potential (HasStronger net s) (λ r. value_at s r ≢ value)

-- the planes have the lane at exactly those nodes of the network of which this holds
abbrev pub AreThose : Circuit → ℕ → (ℕ → Type 0) → List ℕ → Type 0
AreThose net lane Holds planes =
    (n : ℕ) → n < length net.nodes → (lane_at planes n lane ≡ true) ↔ Holds n
