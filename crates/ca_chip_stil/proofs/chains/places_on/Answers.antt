use Rattle.std.proofs.Common.{arith}
use Rattle.ca_chip_stil.proofs.PlaceLemmas.{placed_more}
use Rattle.ca_chip_stil.proofs.chains.places_on.Goals as goal

pub loop-k-preserved : goal.loop-k-preserved
loop-k-preserved c =
    placed_more c.args.chip.now c.args.chain.now c.loop-k.k c.get.result.0 c.args.places.now c.loop-k.list _
    c.requires.places c.requires.scans (omega (arith, c.loop-k-test.true, c.len-k-end.ensures)) c.get.ensures
    c.loop-k.invariant c.in_ok-push.ensures.ok
