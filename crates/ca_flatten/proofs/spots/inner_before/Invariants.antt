use Rattle.std.proofs.Common.{◌≡◌}
use Rattle.ca_flat.specs.Flat.{inner_before}
use Rattle.ca_view.specs.Core.{core_of}
use Rattle.ca_flatten.proofs.spots.inner_before.Given as goal

abbrev pub invariant-loop-u : goal.invariant-loop-u
invariant-loop-u l = l.inner ≡ inner_before (core_of l.chip) l.u
