use Rattle.std.proofs.Common.{arith, refl}
use Rattle.std.specs.Prelude.{slice_index}
use Rattle.ca_sweep.proofs.RowLemmas.{loud_more}
use Rattle.ca_sweep.proofs.rows.loud_codes.Goals as goal

pub loop-place-preserved : goal.loop-place-preserved
loop-place-preserved c =
    loud_more c.args.codes.now c.args.goods c.loop-place.place c.loop-place.loud c.with_lane-loud.result (slice_index c.args.codes.now c.loop-place.place)
    c.flips_of_code-flips.result c.is_none.result (omega arith) c.loop-place.invariant refl c.flips_of_code-flips.ensures c.is_none.ensures.first
    c.is_none.ensures.second c.with_lane-loud.ensures.here c.with_lane-loud.ensures.others
