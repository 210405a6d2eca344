use Rattle.std.proofs.Common.{arith}
use Rattle.ca_fault_place.proofs.TouchedLemmas.{from_more, from_end}
use Rattle.ca_fault_place.proofs.touched.push_from.Goals as goal

pub loop-k-preserved : goal.loop-k-preserved
loop-k-preserved c =
    from_more c.args.first c.loop-k.k c.args.count c.loop-k.wires.items c.push.new.self.items _ c.loop-k-test.true
    c.loop-k.invariant (c.in_ok-push.ensures {u = tt}).items

pub returns : goal.returns
returns c =
    from_end c.args.first c.loop-k.k c.args.count c.loop-k.wires.items _ (let ge = c.loop-k-test.false in omega (arith, ge))
    c.loop-k.invariant
