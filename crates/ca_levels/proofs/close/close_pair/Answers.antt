use Rattle.std.proofs.Common.{◌≡◌, true, arith}
use Rattle.ca_levels.proofs.LeadLemmas.{pair_slack_falls}
use Rattle.ca_levels.proofs.close.close_pair.Goals as goal

pub sweeps-smaller : goal.sweeps-smaller
sweeps-smaller c =
    let rose : c.round_pair.result ≡ true = c.if-not-round_pair.false in
    let both = c.round_pair.ensures in
    pair_slack_falls c.sweeps.zeros c.round_pair.new.zeros c.sweeps.ones c.round_pair.new.ones both.zeros_raise.room both.ones_raise.room
    (λ i. omega (arith, c.type_inv.zeros i)) (λ i. omega (arith, c.type_inv.ones i)) (both.rises rose)
