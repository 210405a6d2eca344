use Rattle.std.proofs.Common.{arith}
use Rattle.ca_link.proofs.EntryLemmas.{defects_more}
use Rattle.ca_link.proofs.limits.defects_of.Goals as goal

pub loop-u-preserved : goal.loop-u-preserved
loop-u-preserved c = (
  defects_more c.args.draft.now.cells c.args.draft.now.parts c.loop-u.u c.part.result.now c.loop-u.defects c.body_defects-defects.result
      c.part.ensures c.loop-u.invariant.0 c.body_defects-defects.ensures.count,
  let before = c.loop-u.invariant.1 in
      let few = c.body_defects-defects.ensures.few in
      omega (arith, before, few),
)
