use Rattle.std.proofs.Common.{◌≡◌, ◌<◌, ℕ, List, length}
use Rattle.std.specs.Prelude.{slice_get}
use Rattle.ca_pin_sets.specs.code.Forest.{IsForest, Realizes}
use Rattle.ca_pin_sets.proofs.groups.find.Given as goal

abbrev pub invariant-up : goal.invariant-up
invariant-up l =
    IsForest l.parents.items × (length l.parents.items ≡ length l.initial.parents.items) × (l.at < length l.parents.items)
    × ((groups : List ℕ) → Realizes l.initial.parents.items groups
    → Realizes l.parents.items groups × (slice_get groups l.at ≡ slice_get groups l.net))

abbrev pub decreases-up : goal.decreases-up
decreases-up l = l.at
