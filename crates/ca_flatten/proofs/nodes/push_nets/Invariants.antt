use Rattle.std.proofs.Common.{◌≡◌, ◌++◌}
use Rattle.ca_view.specs.Core.{core_kinds}
use Rattle.ca_flatten.proofs.nodes.push_nets.Given as goal

abbrev pub invariant-loop-net : goal.invariant-loop-net
invariant-loop-net l = l.nodes ≡ l.fn.nodes ++ core_kinds l.chip l.net
