use Rattle.std.proofs.Common.{arith}
use Rattle.ca_levels.proofs.AdvanceLemmas.{linked_more}
use Rattle.ca_levels.proofs.advance.link_all.Goals as goal

pub loop-i-preserved : goal.loop-i-preserved
loop-i-preserved c =
    linked_more c.args.devices.now c.args.from.now c.args.kind c.args.level c.loop-i.links c.loop-i.i c.link.result
    (omega (arith, c.loop-i-test.true, c.loop-i.auto.links, c.requires.room)) c.link.ensures c.loop-i.invariant

pub returns : goal.returns
returns c i d lane lt low is = c.loop-i.invariant i d lane (omega (arith, lt, c.loop-i-test.false)) low is
