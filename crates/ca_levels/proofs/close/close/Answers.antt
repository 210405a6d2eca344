use Rattle.std.proofs.Common.{◌≡◌, true, arith}
use Rattle.ca_levels.proofs.LeadLemmas.{slack_falls}
use Rattle.ca_levels.proofs.close.close.Goals as goal

pub sweeps-smaller : goal.sweeps-smaller
sweeps-smaller c =
    let rose : c.round.result ≡ true = c.if-not-round.false in
    slack_falls c.sweeps.reached c.round.new.reached c.round.ensures.some.room (λ i. omega (arith, c.type_inv.reached i)) (c.round.ensures.rises rose)
