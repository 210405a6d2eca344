use Rattle.std.proofs.Common.{◌∙◌, length}
use Rattle.ca_lanes.specs.GoodRows.{good_at}
use Rattle.ca_lanes.proofs.RowLemmas.{given_by_none, given_by_more, good_read}
use Rattle.ca_lanes.proofs.evaluate.first_values.Goals as goal

pub loop-vector-init : goal.loop-vector-init
loop-vector-init c lane = c.none-found.ensures lane ∙ given_by_none _ _

pub loop-vector-preserved : goal.loop-vector-preserved
loop-vector-preserved c lane =
    given_by_more c.args.firsts.now lane c.loop-vector.vector c.index-firsts-vector.result
    (λ vector. good_at c.args.values.now (length c.args.firsts.now) c.args.outputs vector vector c.args.output) _ _ _
    c.loop-vector-test.true c.index-firsts-vector.is (c.loop-vector.invariant lane) (c.with-found.ensures lane)
    (good_read c.args.values.now (length c.args.firsts.now) c.args.outputs c.loop-vector.vector c.loop-vector.vector c.args.output _
    c.place.ensures.place c.place.ensures.within c.requires.rows)
