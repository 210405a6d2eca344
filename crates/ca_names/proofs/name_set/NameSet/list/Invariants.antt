use Rattle.std.proofs.Common.{◌≡◌, ◌++◌, length, map, Vec, ℕ, Global}
use Rattle.ca_names.proofs.name_set.NameSet.list.Given as goal

abbrev pub invariant-names : goal.invariant-names
invariant-names l = l.names ++ map (λ (key : Vec ℕ Global). key.items) l.rest ≡ l.self

abbrev pub decreases-names : goal.decreases-names
decreases-names l = length l.rest
