use Rattle.ca_levels.proofs.LeadLemmas.{round_pair_back}
use Rattle.ca_levels.proofs.close.round_pair.Goals as goal

pub returns : goal.returns
returns c =
    round_pair_back c.args.devices.now c.args.links.now c.args.blocked.now c.args.zeros.now c.sweep_pair.new.zeros c.sweep_pair_back.new.zeros c.args.ones.now
    c.sweep_pair.new.ones c.sweep_pair_back.new.ones c.sweep_pair.result c.sweep_pair_back.result c.if-not-sweep_pair.false c.sweep_pair.ensures c.sweep_pair_back.ensures
