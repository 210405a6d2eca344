use Rattle.std.proofs.Common.{true, false}
use Rattle.ca_planes.specs.Trits.{state_in}
use Rattle.ca_every_vector.proofs.SpreadLemmas.{stays_for}
use Rattle.ca_every_vector.proofs.LaneSpreadLemmas.{all_choices}
use Rattle.ca_every_vector.proofs.lane_stays.lanes_all_stay.Goals as goal

pub returns-clause-stay : goal.returns-clause-stay
returns-clause-stay c =
    let core = c.args.chip.now.core in
    let u = c.args.u in
    let values = c.args.values.now in
    all_choices core c.args.u c.args.values.now c.lanes_own-none.result c.in_ok-first.first c.in_ok-more.more c.both.result c.both-2.result
    c.both.ensures c.both-2.ensures c.lanes_own-none.ensures
    (λ lane low has flips f s. stays_for core u (state_in values lane) c.flips_of-one.result flips true false c.flips_of-one.ensures.first c.flips_of-one.ensures.second f s
    (c.in_ok-first.ensures.stay lane low has))
    c.in_ok-more.ensures.other c.in_ok-more.ensures.two
