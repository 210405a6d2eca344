-- What sweeps over the instances of a chip mark.
use Rattle.std.specs.Prelude.{ℕ, ◌≡◌, ◌<◌, ◌≤◌, Bool, List, ◌∷◌, length}
use Rattle.ca_flat.specs.Chip.{Chip, inputs_at, net_of}
use Rattle.ca_flat.specs.Chain.{Leads, IsOutputOf}
use Rattle.ca_flat.specs.RuleOut.{IsOpenChain}
use Rattle.ca_view.specs.Linked.{IsPlaced}
use Rattle.ca_examiner.specs.code.Marks.{IsMarked}

-- a chain of open nets leads from the instance u to the net
pub record HasOpenChain (chip : Chip) (open_nets : List Bool) (u net : ℕ) : Type 0 where
  pub before : List ℕ
  pub chain : IsOpenChain (IsMarked open_nets) chip u (net ∷ before)

-- the open output nets of the instance u are marked, each net with a mark ends an open chain from it, and
-- those of the instances before a place have handed their marks on
pub record IsSweptTo (chip : Chip) (place_of : ℕ → ℕ) (open_nets : List Bool) (u : ℕ) (marks : List Bool)
    (place : ℕ) : Type 0 where
  pub size : length marks ≡ length chip.nets
  pub begin : (net : ℕ) → IsOutputOf chip u net → IsMarked open_nets net → IsMarked marks net
  pub onward : (w pin net : ℕ) → IsPlaced chip place_of w → place_of w < place → pin < inputs_at chip w
      → IsMarked marks (net_of chip w pin)
      → IsOutputOf chip w net → IsMarked open_nets net → IsMarked marks net
  pub chains : (net : ℕ) → IsMarked marks net → HasOpenChain chip open_nets u net

-- exactly the nets to which a chain of open nets leads from the instance u are marked
pub record AreReached (chip : Chip) (open_nets : List Bool) (u : ℕ) (marks : List Bool) : Type 0 where
  pub size : length marks ≡ length chip.nets
  pub each : (net : ℕ) (before : List ℕ) → IsOpenChain (IsMarked open_nets) chip u (net ∷ before)
      → IsMarked marks net
  pub chains : (net : ℕ) → IsMarked marks net → HasOpenChain chip open_nets u net

-- a chain of instances leads from the net to one that is marked as a root
pub record LeadsToRoot (chip : Chip) (roots : List Bool) (net : ℕ) : Type 0 where
  pub root : ℕ
  pub marked : IsMarked roots root
  pub leads : Leads chip net root

-- the roots are marked, from each net with a mark a chain leads to a root, and the instances from a place on
-- have handed their marks back
pub record IsSweptFrom (chip : Chip) (place_of : ℕ → ℕ) (roots marks : List Bool) (place : ℕ) : Type 0 where
  pub size : length marks ≡ length chip.nets
  pub begin : (net : ℕ) → IsMarked roots net → IsMarked marks net
  pub back : (w pin net : ℕ) → IsPlaced chip place_of w → place ≤ place_of w → pin < inputs_at chip w
      → IsOutputOf chip w net → IsMarked marks net → IsMarked marks (net_of chip w pin)
  pub leads : (net : ℕ) → IsMarked marks net → LeadsToRoot chip roots net

-- exactly the nets from which a chain of instances leads to a root are marked
pub record AreLeading (chip : Chip) (roots marks : List Bool) : Type 0 where
  pub size : length marks ≡ length chip.nets
  pub each : (net : ℕ) → LeadsToRoot chip roots net → IsMarked marks net
  pub leads : (net : ℕ) → IsMarked marks net → LeadsToRoot chip roots net
