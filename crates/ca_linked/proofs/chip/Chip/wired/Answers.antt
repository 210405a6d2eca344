use Rattle.std.proofs.Common.{subst}
use Rattle.ca_linked.specs.Linked.{IsWired}
use Rattle.ca_linked.proofs.chip.Chip.wired.Goals as goal

pub returns : goal.returns
returns c = subst IsWired c.self.view_is c.self.invariant.wired
