use Rattle.std.proofs.Common.{length}
use Rattle.ca_net.specs.declared.path_kind.PathKind.TheVariants.{Definite, Potential}
use Rattle.ca_levels.proofs.AdvanceLemmas.{linked_unused}
use Rattle.ca_levels.proofs.advance.relink.Goals as goal

pub returns-else-fresh-clause-potential : goal.returns-else-fresh-clause-potential
returns-else-fresh-clause-potential c =
    linked_unused c.args.devices.now c.args.from.now Potential c.args.level (length c.args.devices.now) c.args.potential.now (c.requires.unused c.if-fresh.false) c.requires.potential

pub returns-else-fresh-clause-definite : goal.returns-else-fresh-clause-definite
returns-else-fresh-clause-definite c =
    linked_unused c.args.devices.now c.args.from.now Definite c.args.level (length c.args.devices.now) c.args.definite.now (c.requires.unused c.if-fresh.false) c.requires.definite
