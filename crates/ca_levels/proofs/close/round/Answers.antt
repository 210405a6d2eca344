use Rattle.ca_levels.proofs.LeadLemmas.{round_still, round_back}
use Rattle.ca_levels.proofs.close.round.Goals as goal

pub returns : goal.returns
returns c =
    round_back c.args.devices.now c.args.links.now c.args.blocked.now c.args.reached.now c.sweep.new.reached c.sweep_back.new.reached c.sweep.result c.sweep_back.result
    c.if-not-sweep.false c.sweep.ensures.raises c.sweep_back.ensures.raises c.sweep_back.ensures.settled

pub returns-then-not-sweep : goal.returns-then-not-sweep
returns-then-not-sweep c =
    round_still c.args.devices.now c.args.links.now c.args.blocked.now c.args.reached.now c.sweep.new.reached c.sweep.result c.if-not-sweep.true
    c.sweep.ensures.raises c.sweep.ensures.settled
