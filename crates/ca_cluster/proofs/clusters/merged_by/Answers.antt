use Rattle.ca_cluster.proofs.ClusterLemmas.{can_merge, merged_last}
use Rattle.ca_cluster.proofs.clusters.merged_by.Goals as goal

pub merged-requires : goal.merged-requires
merged-requires c = can_merge c.args.chip.now c.wired.ensures c.args.bridge c.requires.known c.requires.inside c.args.members.now c.requires.are c.requires.gates

pub returns-in-Ok : goal.returns-in-Ok
returns-in-Ok c = (
  c.requires.inside,
  record {
    members = c.args.members.now;
    are = c.requires.are;
    merged = merged_last c.args.chip.now c.wired.ensures c.args.bridge c.requires.known c.requires.inside c.args.members.now c.requires.are
        c.in-Ok.made c.in-Ok.last.0 c.short_for-defect.result c.requires.gates c.in-Ok.ensures.ok c.in-Ok.ensures.kept (c.in_ok-judge_size.ensures {u = tt}) c.short_for-defect.ensures;
  },
)
