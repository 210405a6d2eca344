-- A network that is made of parts, each a network with its nodes renamed.
use Rattle.std.specs.Prelude.{ℕ, zero, suc, ◌+◌, ◌≡◌, ◌<◌, ◌⊎◌, List, [], ◌∷◌, length}
use Rattle.ca_net.specs.declared.trit.Trit.{Trit}
use Rattle.ca_net.specs.Circuit.{Circuit, IsWellFormed, IsInput, IsStorage}
use Rattle.ca_net.specs.State.{value_at}
use Rattle.ca_parts.specs.Part.{IsPart}

-- the values of t at the images of the k nodes from j on
unfoldable pub part_values : (ℕ → ℕ) → List Trit → ℕ → ℕ → List Trit
part_values to t j zero = []
part_values to t j (suc k) = value_at t (to j) ∷ part_values to t (j + 1) k

-- the state of the part c in a state of the whole
abbrev pub part_state : Circuit → (ℕ → ℕ) → List Trit → List Trit
part_state c to t = part_values to t 0 (length c.nodes)

-- the part that has the node x of the whole as a storage node
pub record Owner (cell : ℕ → Circuit) (to : ℕ → ℕ → ℕ) (count x : ℕ) : Type 0 where
  pub part : ℕ
  pub node : ℕ
  pub known : part < count
  pub storage : IsStorage (cell part) node
  pub at : to part node ≡ x

-- f is made of count parts. Each storage node is one part's, and each input node of a part is an input of f
-- or a storage node of a part of lower rank.
pub record IsSplit (f : Circuit) (cell : ℕ → Circuit) (to : ℕ → ℕ → ℕ) (count : ℕ) (rank : ℕ → ℕ)
    : Type 0 where
  pub well_formed : (u : ℕ) → u < count → IsWellFormed (cell u)
  pub part : (u : ℕ) → u < count → IsPart (cell u) f (to u)
  pub single : (u w m n : ℕ) → u < count → w < count → IsStorage (cell u) m → IsStorage (cell w) n
      → to u m ≡ to w n → u ≡ w
  pub covered : (x : ℕ) → IsStorage f x → Owner cell to count x
  pub fed : (u n : ℕ) → u < count → IsInput (cell u) n
      → IsInput f (to u n) ⊎ ((o : Owner cell to count (to u n)) × (rank o.part < rank u))

-- the parts' states agree over the vector v: an input node of a part has what v has there, or what the part
-- with that node has
pub record Agree (f : Circuit) (cell : ℕ → Circuit) (to : ℕ → ℕ → ℕ) (count : ℕ) (v : List Trit)
    (states : ℕ → List Trit) : Type 0 where
  pub from_input : (u n : ℕ) → u < count → IsInput (cell u) n → IsInput f (to u n)
      → value_at (states u) n ≡ value_at v (to u n)
  pub from_part : (u n : ℕ) → u < count → IsInput (cell u) n → (o : Owner cell to count (to u n))
      → value_at (states u) n ≡ value_at (states o.part) o.node

-- the whole's state has what the parts' states have
abbrev pub IsGlued : (ℕ → Circuit) → (ℕ → ℕ → ℕ) → ℕ → (ℕ → List Trit) → List Trit → Type 0
IsGlued cell to count states s = (u n : ℕ) → u < count → n < length (cell u).nodes
    → value_at s (to u n) ≡ value_at (states u) n
