use Rattle.ca_cluster.proofs.MemberLemmas.{marks_fit, members_are, members_library}
use Rattle.ca_cluster.proofs.members.members_of.Goals as goal

pub listed-requires : goal.listed-requires
listed-requires c = marks_fit c.args.chip.now c.wired.ensures c.args.bridge c.requires c.in_ok-marks.marks (c.in_ok-marks.ensures {u = tt})

pub returns-clause-are : goal.returns-clause-are
returns-clause-are c =
    members_are c.args.chip.now c.wired.ensures c.args.bridge c.requires c.in_ok-marks.marks (c.in_ok-marks.ensures {u = tt}) c.in_ok-members.members (c.in_ok-members.ensures {u = tt})

pub returns-clause-gates : goal.returns-clause-gates
returns-clause-gates c =
    members_library c.args.chip.now c.wired.ensures c.args.bridge c.requires c.in_ok-members.members
    (members_are c.args.chip.now c.wired.ensures c.args.bridge c.requires c.in_ok-marks.marks (c.in_ok-marks.ensures {u = tt}) c.in_ok-members.members (c.in_ok-members.ensures {u = tt}))
