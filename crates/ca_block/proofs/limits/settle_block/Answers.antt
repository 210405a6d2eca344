use Rattle.std.proofs.Common.{sym, subst, arith}
use Rattle.ca_net.specs.Limits.{IsFirstLimit}
use Rattle.ca_planes.specs.Trits.{state_in}
use Rattle.ca_settle.proofs.PhaseLemmas.{middle_held}
use Rattle.ca_block.proofs.GroupLemmas.{fixed_responds}
use Rattle.ca_block.proofs.LimitLemmas.{phases_from, limits_in, end_in}
use Rattle.ca_block.proofs.limits.settle_block.Goals as goal

pub rise-requires-clause-held : goal.rise-requires-clause-held
rise-requires-clause-held g c lane low =
    let net = g.N.Network.circuit c.args.net.now in
    let is_first = subst (IsFirstLimit net (state_in c.args.from.now lane)) (sym (c.spread.ensures.spread lane low)) (c.requires.firsts lane (omega (arith, low))) in
    let before = phases_from net c.begin.ensures.well_formed (state_in c.args.from.now lane) (state_in c.meet.new.into lane) (state_in c.args.to.now lane)
    (state_in c.spread.new.into lane) (state_in c.begin.new.at lane) (state_in c.fall.new.at lane) is_first (c.meet.ensures.meets lane low)
    (c.begin.ensures.begun lane low) (c.fall.ensures.fallen lane low) in
    middle_held net before (c.begin-2.ensures.begun lane low)

pub returns-clause-limits : goal.returns-clause-limits
returns-clause-limits g c lane low =
    let net = g.N.Network.circuit c.args.net.now in
    let is_first = subst (IsFirstLimit net (state_in c.args.from.now lane)) (sym (c.spread.ensures.spread lane low)) (c.requires.firsts lane (omega (arith, low))) in
    let before = phases_from net c.begin.ensures.well_formed (state_in c.args.from.now lane) (state_in c.meet.new.into lane) (state_in c.args.to.now lane)
    (state_in c.spread.new.into lane) (state_in c.begin.new.at lane) (state_in c.fall.new.at lane) is_first (c.meet.ensures.meets lane low)
    (c.begin.ensures.begun lane low) (c.fall.ensures.fallen lane low) in
    limits_in net (state_in c.args.from.now lane) (state_in c.meet.new.into lane) (state_in c.args.to.now lane) (state_in c.spread.new.into lane) (state_in c.fall.new.at lane)
    (state_in c.begin-2.new.at lane) (state_in c.rise.new.at lane) before (c.meet.ensures.meets lane low) (c.begin-2.ensures.begun lane low) (c.rise.ensures.risen lane low)

pub returns-clause-ends : goal.returns-clause-ends
returns-clause-ends g c lane low =
    let net = g.N.Network.circuit c.args.net.now in
    let is_first = subst (IsFirstLimit net (state_in c.args.from.now lane)) (sym (c.spread.ensures.spread lane low)) (c.requires.firsts lane (omega (arith, low))) in
    let before = phases_from net c.begin.ensures.well_formed (state_in c.args.from.now lane) (state_in c.meet.new.into lane) (state_in c.args.to.now lane)
    (state_in c.spread.new.into lane) (state_in c.begin.new.at lane) (state_in c.fall.new.at lane) is_first (c.meet.ensures.meets lane low)
    (c.begin.ensures.begun lane low) (c.fall.ensures.fallen lane low) in
    end_in net c.begin.ensures.well_formed (state_in c.args.from.now lane) (state_in c.meet.new.into lane) (state_in c.args.to.now lane) (state_in c.spread.new.into lane)
    (state_in c.fall.new.at lane) (state_in c.rise.new.at lane) (c.meet.ensures.meets lane low)
    (limits_in net (state_in c.args.from.now lane) (state_in c.meet.new.into lane) (state_in c.args.to.now lane) (state_in c.spread.new.into lane) (state_in c.fall.new.at lane)
    (state_in c.begin-2.new.at lane) (state_in c.rise.new.at lane) before (c.meet.ensures.meets lane low) (c.begin-2.ensures.begun lane low) (c.rise.ensures.risen lane low))

pub respond_again-requires-clause-responses : goal.respond_again-requires-clause-responses
respond_again-requires-clause-responses g c lane low =
    let net = g.N.Network.circuit c.args.net.now in
    let is_first = subst (IsFirstLimit net (state_in c.args.from.now lane)) (sym (c.spread.ensures.spread lane low)) (c.requires.firsts lane (omega (arith, low))) in
    fixed_responds net (state_in c.args.from.now lane) (state_in c.spread.new.into lane) is_first.fixed
