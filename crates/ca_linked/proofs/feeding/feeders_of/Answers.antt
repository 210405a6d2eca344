use Rattle.std.proofs.Common.{◌+◌, subst, sym}
use Rattle.ca_linked.specs.code.Feeding.{HaveFeeders}
use Rattle.ca_linked.proofs.FeedingLemmas.{feeders_pushed}
use Rattle.ca_linked.proofs.feeding.feeders_of.Goals as goal

pub loop-u-preserved : goal.loop-u-preserved
loop-u-preserved c =
    subst (HaveFeeders c.args.draft.now (c.loop-u.u + 1)) (sym (c.in_ok-push.ensures.ok))
    (feeders_pushed c.args.draft.now c.loop-u.feeders c.loop-u.u c.in_ok-row.row c.loop-u.invariant (c.in_ok-row.ensures {u = tt}))
