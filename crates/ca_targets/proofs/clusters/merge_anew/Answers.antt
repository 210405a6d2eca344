use Rattle.ca_targets.proofs.CodeLemmas.{may_merge}
use Rattle.ca_targets.proofs.clusters.merge_anew.Goals as goal

pub merged-requires : goal.merged-requires
merged-requires c = may_merge c.args.chip.now c.args.bridge c.args.members c.wired.ensures c.requires.inner c.requires.are
