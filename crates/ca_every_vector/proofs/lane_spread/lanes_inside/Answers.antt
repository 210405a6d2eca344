use Rattle.std.proofs.Common.{ℕ, ◌<◌, ◌≢◌}
use Rattle.ca_net.specs.declared.trit.Trit.TheVariants.{X}
use Rattle.ca_flat.specs.Chip.{inputs_at, net_of}
use Rattle.ca_every_vector.specs.Inside.{IsEvaluatedInside}
use Rattle.ca_every_vector.specs.code.Lanes.{values_of}
use Rattle.ca_every_vector.specs.code.Spread.{IsGiven}
use Rattle.ca_every_vector.proofs.LaneSpreadLemmas.{both_lanes}
use Rattle.ca_every_vector.proofs.lane_spread.lanes_inside.Goals as goal

pub returns-clause-inside : goal.returns-clause-inside
returns-clause-inside c =
    let core = c.args.chip.now.core in
    let values = c.args.values.now in
    let others = c.args.others.now in
    both_lanes c.both.result c.lanes_known-known.result c.lanes_given.result
    (λ lane. (pin : ℕ) → pin < inputs_at core c.args.w → values_of values lane (net_of core c.args.w pin) ≢ X)
    (λ lane. IsGiven core c.args.w (values_of others lane))
    (λ lane. IsEvaluatedInside core c.args.w (values_of values lane) (values_of others lane))
    c.both.ensures c.lanes_known-known.ensures c.lanes_given.ensures.given
    (λ lane low known given. record { known = known; evaluated = given.evaluated })
