use Rattle.std.proofs.Common.{◌≡◌, ℕ, List, length, take}
use Rattle.ca_pin_sets.specs.Groups.{groups_after}
use Rattle.ca_pin_sets.specs.code.Forest.{IsForest, Realizes}
use Rattle.ca_pin_sets.proofs.groups.join_all.Given as goal

abbrev pub invariant-loop-device : goal.invariant-loop-device
invariant-loop-device l =
    IsForest l.parents.items × (length l.parents.items ≡ length l.initial.parents.items)
    × ((groups : List ℕ) → Realizes l.initial.parents.items groups
    → Realizes l.parents.items (groups_after l.pins groups (take l.device-index l.devices)))
