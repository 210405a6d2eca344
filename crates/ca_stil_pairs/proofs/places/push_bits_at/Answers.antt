use Rattle.std.proofs.Common.{false}
use Rattle.ca_stil_pairs.proofs.PlaceLemmas.{sited_pushed}
use Rattle.ca_stil_pairs.proofs.places.push_bits_at.Goals as goal

pub loop-k-preserved : goal.loop-k-preserved
loop-k-preserved c =
    sited_pushed false c.args.pair.now c.loop-k.pair c.push.new.self c.args.from c.loop-k.k c.args.sites.now
    c.args.bits.now c.get.result c.loop-k.invariant c.loop-k-test.true c.get.ensures c.in_ok-push.ensures.ok
