use Rattle.std.proofs.Common.{◌<◌}
use Rattle.ca_diag.proofs.FailingLemmas.{row_more, of_get}
use Rattle.ca_diag.proofs.failing.ByPair.of.Goals as goal

pub loop-k-preserved : goal.loop-k-preserved
loop-k-preserved c =
    row_more c.args.pairs c.loop-k.k c.args.log.now c.get.result c.loop-k.by c.add.new.self c.get.ensures
    (of_get (λ here. here.pair < c.args.pairs) c.args.log.now c.loop-k.k c.get.result c.requires c.get.ensures) c.loop-k.invariant c.in_ok-add.ensures
