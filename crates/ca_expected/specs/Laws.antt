-- A law of listed pairs. It is the contract of a public function that does nothing (src/laws.rt).
use Rattle.std.specs.Prelude.{ℕ, ◌≡◌, Bool, List, length}
use Rattle.std.specs.List.{All}
use Rattle.ca_flat.specs.Pair.{bit_count}
use Rattle.ca_credit.specs.Defects.{Task, AreTargets}
use Rattle.ca_credit.specs.Listed.{AreAims}

-- pairs that were found for targets have a bit for each pattern bit of the chip
abbrev pub AimedPairsAreWhole : Type 0
AimedPairsAreWhole =
    (task : Task) (pairs : List (List Bool)) (aims : List ℕ) → AreTargets task → AreAims task pairs aims
    → All (λ pair. length pair ≡ bit_count task.chip) pairs
