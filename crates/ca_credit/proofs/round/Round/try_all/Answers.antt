use Rattle.std.proofs.Common.{◌≡◌, arith, length, subst}
use Rattle.ca_credit.specs.Table.{CreditsIn}
use Rattle.ca_credit.proofs.RoundLemmas.{credits_whole}
use Rattle.ca_credit.proofs.round.Round.try_all.Goals as goal

pub returns-clause-credited : goal.returns-clause-credited
returns-clause-credited g c =
    let task = g.S.Simulator.task c.args.sim.now in
    let end : c.len-end.result ≡ length c.args.self.now.verdicts.items = let is = c.len-end.ensures in omega arith in
    credits_whole task c.args.pair.now c.args.number c.args.self.now.verdicts.items c.try_in.new.self.verdicts.items
    (subst (λ n. CreditsIn (g.S.Simulator.task c.args.sim.now) c.args.pair.now c.args.number 0 n c.args.self.now.verdicts.items c.try_in.new.self.verdicts.items) end
    c.try_in.ensures.credited)
