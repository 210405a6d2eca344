use Rattle.std.proofs.Common.{arith}
use Rattle.std.proofs.lemmas.Option.{slice_get-get_or}
use Rattle.ca_draft.proofs.HeaderLemmas.{count_within}
use Rattle.ca_fault_place.proofs.bits.wire_name.Goals as goal

pub range_width-width-requires : goal.range_width-width-requires
range_width-width-requires c =
    let le = count_within c.args.buses.now c.loop-k.k _ (slice_get-get_or c.args.buses.now c.loop-k.k c.index-buses-k.result c.loop-k-test.true) in
    let all = c.requires in
    omega (arith, le, all)
