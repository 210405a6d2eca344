use Rattle.std.proofs.Common.{◌∙◌, length}
use Rattle.ca_lanes.specs.GoodRows.{good_at}
use Rattle.ca_lanes.proofs.RowLemmas.{given_by_none, given_by_more, good_read}
use Rattle.ca_lanes.proofs.evaluate.row_values.Goals as goal

pub loop-last-init : goal.loop-last-init
loop-last-init c lane = c.none-found.ensures lane ∙ given_by_none _ _

pub loop-last-preserved : goal.loop-last-preserved
loop-last-preserved c lane =
    given_by_more c.args.lasts.now lane c.loop-last.last c.index-lasts-last.result
    (λ last. good_at c.args.values.now (length c.args.lasts.now) c.args.outputs c.args.first last c.args.output) _ _ _
    c.loop-last-test.true c.index-lasts-last.is (c.loop-last.invariant lane) (c.with-found.ensures lane)
    (good_read c.args.values.now (length c.args.lasts.now) c.args.outputs c.args.first c.loop-last.last c.args.output _
    c.place.ensures.place c.place.ensures.within c.requires.rows)
