-- Laws of renumbered networks.
use Rattle.std.specs.Prelude.{ℕ, ◌≡◌, ◌<◌, ◌↔◌, List, length}
use Rattle.ca_net.specs.declared.trit.Trit.{Trit}
use Rattle.ca_net.specs.Circuit.{Circuit, IsWellFormed}
use Rattle.ca_net.specs.State.{value_at}
use Rattle.ca_net.specs.Response.{IsResponse}
use Rattle.ca_net.specs.PairRun.{PairRun, EndsAt}
use Rattle.ca_renumber.specs.Renumbered.{IsRenumbered, IsRenumberedState, IsRenumberedVector}

-- a node responds as its image does
abbrev pub ResponsesAreRenumbered : Type 0
ResponsesAreRenumbered =
    (c f : Circuit) (to : ℕ → ℕ) (s t : List Trit) (n : ℕ) (v : Trit) → IsWellFormed c → IsWellFormed f
    → IsRenumbered c f to → IsRenumberedState c f to s t → n < length c.nodes
    → IsResponse c s n v ↔ IsResponse f t (to n) v

-- a pair run of the renumbered network that ends in the image of this state
pub record HasPairRun (c f : Circuit) (to : ℕ → ℕ) (w1 w2 last : List Trit) : Type 0 where
  pub image : List Trit
  pub run : PairRun f w1 w2 image
  pub values : (n : ℕ) → n < length c.nodes → value_at image (to n) ≡ value_at last n

-- to each pair run there is one of the renumbered network
abbrev pub RunsAreRenumbered : Type 0
RunsAreRenumbered =
    (c f : Circuit) (to : ℕ → ℕ) (v1 v2 w1 w2 last : List Trit) → IsWellFormed c → IsWellFormed f
    → IsRenumbered c f to
    → IsRenumberedVector c to v1 w1 → IsRenumberedVector c to v2 w2
    → PairRun c v1 v2 last → HasPairRun c f to w1 w2 last

-- what every run ends with doesn't change where nodes are renumbered, devices come in another order, and the
-- ends of devices are exchanged
abbrev pub EndsAreRenumbered : Type 0
EndsAreRenumbered =
    (c f : Circuit) (to : ℕ → ℕ) (v1 v2 w1 w2 : List Trit) (n : ℕ) (v : Trit) → IsWellFormed c
    → IsWellFormed f → IsRenumbered c f to → IsRenumberedVector c to v1 w1 → IsRenumberedVector c to v2 w2
    → n < length c.nodes → EndsAt c v1 v2 n v ↔ EndsAt f w1 w2 (to n) v
