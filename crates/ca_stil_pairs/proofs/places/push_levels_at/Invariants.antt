use Rattle.std.proofs.Common.{◌≡◌, ◌++◌, take}
use Rattle.ca_net.specs.declared.trit.Trit.TheVariants.{X}
use Rattle.ca_stil_pairs.specs.code.Places.{sited}
use Rattle.ca_stil_pairs.proofs.places.push_levels_at.Given as goal

abbrev pub invariant-loop-k : goal.invariant-loop-k
invariant-loop-k l = l.list ≡ l.fn.list ++ sited X l.from (take l.k l.sites) l.levels
