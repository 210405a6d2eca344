use Rattle.ca_stil_pairs.proofs.PlaceLemmas.{part_pushed}
use Rattle.ca_stil_pairs.proofs.places.push_bits.Goals as goal

pub loop-k-preserved : goal.loop-k-preserved
loop-k-preserved c =
    part_pushed c.args.pair.now c.loop-k.pair c.push.new.self c.args.from c.loop-k.k c.args.bits.now c.get.result
    c.loop-k.invariant c.get.ensures c.in_ok-push.ensures.ok
