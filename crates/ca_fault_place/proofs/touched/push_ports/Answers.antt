use Rattle.std.proofs.Common.{◌<◌, arith, length, get_or}
use Rattle.std.proofs.lemmas.Option.{slice_get-get_or}
use Rattle.ca_draft.proofs.HeaderLemmas.{count_within, port_within}
use Rattle.ca_fault_place.proofs.TouchedLemmas.{ports_more}
use Rattle.ca_fault_place.proofs.touched.push_ports.Goals as goal

pub bounds-firsts-place : goal.bounds-firsts-place
bounds-firsts-place c =
    let lt = port_within c.args.buses.now c.args.places.now c.loop-p.p 0 c.requires.ports c.loop-p-test.true in
    let count = c.requires.firsts.count in
    omega (arith, lt, count)

pub bounds-buses-place : goal.bounds-buses-place
bounds-buses-place c = port_within c.args.buses.now c.args.places.now c.loop-p.p 0 c.requires.ports c.loop-p-test.true

pub bounds-buses-place-in-loop-p : goal.bounds-buses-place-in-loop-p
bounds-buses-place-in-loop-p c = port_within c.args.buses.now c.args.places.now c.loop-p.p 0 c.requires.ports c.loop-p-test.true

pub range_width-requires : goal.range_width-requires
range_width-requires c =
    let place = get_or c.args.places.now c.loop-p.p 0 in
    let lt : place < length c.args.buses.now = port_within c.args.buses.now c.args.places.now c.loop-p.p 0 c.requires.ports c.loop-p-test.true in
    let le = count_within c.args.buses.now place _ (slice_get-get_or c.args.buses.now place c.index-buses-place.result lt) in
    let all = c.requires.bits in
    omega (arith, le, all)

pub push_from-requires : goal.push_from-requires
push_from-requires c =
    let place = get_or c.args.places.now c.loop-p.p 0 in
    let lt : place < length c.args.buses.now = port_within c.args.buses.now c.args.places.now c.loop-p.p 0 c.requires.ports c.loop-p-test.true in
    let le = count_within c.args.buses.now place _ (slice_get-get_or c.args.buses.now place c.index-buses-place.result lt) in
    let first = c.requires.firsts.at place lt in
    let width = c.range_width.ensures in
    let all = c.requires.bits in
    omega (arith, le, first, all, width)

pub loop-p-preserved : goal.loop-p-preserved
loop-p-preserved c =
    let place = get_or c.args.places.now c.loop-p.p 0 in
    let lt : place < length c.args.buses.now = port_within c.args.buses.now c.args.places.now c.loop-p.p 0 c.requires.ports c.loop-p-test.true in
    ports_more c.args.buses.now c.args.places.now c.loop-p.p place _ _ c.range_width.result c.args.wires.now.items _ _
    (slice_get-get_or c.args.places.now c.loop-p.p 0 c.loop-p-test.true)
    (slice_get-get_or c.args.buses.now place c.index-buses-place.result lt) (c.requires.firsts.at place lt) c.range_width.ensures
    c.loop-p.invariant (c.in_ok-push_from.ensures {u = tt})
