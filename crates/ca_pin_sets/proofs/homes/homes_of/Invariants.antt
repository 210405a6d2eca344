use Rattle.std.proofs.Common.{◌≡◌, length, map}
use Rattle.std.specs.List.{range_with_len}
use Rattle.ca_pin_sets.specs.Groups.{groups_of}
use Rattle.ca_pin_sets.specs.Homes.{owners_of, home_of}
use Rattle.ca_pin_sets.specs.code.Forest.{IsForest, Realizes}
use Rattle.ca_pin_sets.proofs.homes.homes_of.Given as goal

abbrev pub invariant-loop-net : goal.invariant-loop-net
invariant-loop-net l =
    IsForest l.parents.items × (length l.parents.items ≡ length l.raw.nets) × (length l.owners.items ≡ length l.raw.nets)
    × Realizes l.parents.items (groups_of l.raw) × (l.owners.items ≡ owners_of l.raw)
    × (l.homes.items ≡ map (home_of l.raw) (range_with_len 0 l.net))
