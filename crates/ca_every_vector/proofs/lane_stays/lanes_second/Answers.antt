use Rattle.std.proofs.Common.{◌<◌, true, false, arith}
use Rattle.ca_planes.specs.Trits.{state_in}
use Rattle.ca_flat.specs.Chip.{outputs_at}
use Rattle.ca_every_vector.specs.code.Lanes.{StaysFor}
use Rattle.ca_every_vector.proofs.LaneSpreadLemmas.{alone_stays, both_lanes}
use Rattle.ca_every_vector.proofs.lane_stays.lanes_second.Goals as goal

pub returns-then-outputs_at-lt2-clause-other : goal.returns-then-outputs_at-lt2-clause-other
returns-then-outputs_at-lt2-clause-other c =
    let core = c.args.chip.now.core in
    let values = c.args.values.now in
    let few : outputs_at core c.args.u < 2 = let e = c.outputs_at.ensures in let less = c.if-outputs_at-lt2.true in omega arith in
    both_lanes c.both.result c.args.first c.args.none (λ lane. StaysFor core c.args.u (state_in values lane) true false) (λ lane. StaysFor core c.args.u (state_in values lane) false false)
    (λ lane. StaysFor core c.args.u (state_in values lane) false true) c.both.ensures c.requires.first c.requires.none
    (λ lane low first none. alone_stays core c.args.u (state_in values lane) false true few none)

pub returns-then-outputs_at-lt2-clause-two : goal.returns-then-outputs_at-lt2-clause-two
returns-then-outputs_at-lt2-clause-two c =
    let core = c.args.chip.now.core in
    let values = c.args.values.now in
    let few : outputs_at core c.args.u < 2 = let e = c.outputs_at.ensures in let less = c.if-outputs_at-lt2.true in omega arith in
    both_lanes c.both.result c.args.first c.args.none (λ lane. StaysFor core c.args.u (state_in values lane) true false) (λ lane. StaysFor core c.args.u (state_in values lane) false false)
    (λ lane. StaysFor core c.args.u (state_in values lane) true true) c.both.ensures c.requires.first c.requires.none
    (λ lane low first none. alone_stays core c.args.u (state_in values lane) true true few first)
