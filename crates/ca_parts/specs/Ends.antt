-- Laws of what every pair run ends with.
use Rattle.std.specs.Prelude.{ℕ, ◌≡◌, ◌<◌, List, length}
use Rattle.ca_net.specs.declared.trit.Trit.{Trit}
use Rattle.ca_net.specs.Circuit.{Circuit, IsWellFormed}
use Rattle.ca_net.specs.PairRun.{EndsAt}
use Rattle.ca_parts.specs.Composition.{InputsUnder}

-- what every run ends with is kept where more of the inputs is known: each run for the higher vectors is one
-- for the lower
abbrev pub EndsAreKept : Type 0
EndsAreKept =
    (net : Circuit) (v1 v2 w1 w2 : List Trit) (n : ℕ) (v : Trit)
    → InputsUnder net v1 w1 → InputsUnder net v2 w2
    → EndsAt net v1 v2 n v → EndsAt net w1 w2 n v

-- no two different values are what every run ends with: there are runs
abbrev pub EndsAreUnique : Type 0
EndsAreUnique =
    (net : Circuit) (v1 v2 : List Trit) (n : ℕ) (v w : Trit) → IsWellFormed net → n < length net.nodes
    → EndsAt net v1 v2 n v → EndsAt net v1 v2 n w → v ≡ w
