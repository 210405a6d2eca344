use Rattle.ca_planes.specs.Trits.{state_in}
use Rattle.ca_settle.proofs.PhaseLemmas.{first_limit}
use Rattle.ca_block.proofs.limits.settle_firsts.Goals as goal

pub returns-clause-firsts : goal.returns-clause-firsts
returns-clause-firsts g c lane low =
    first_limit (g.N.Network.circuit c.args.net.now) (state_in c.args.from.now lane) (state_in c.forget.new.state lane) (state_in c.begin.new.at lane)
    (c.begin.ensures.begun lane low) (state_in c.rise.new.at lane) (c.forget.ensures.unknown lane low) (c.rise.ensures.risen lane low)
