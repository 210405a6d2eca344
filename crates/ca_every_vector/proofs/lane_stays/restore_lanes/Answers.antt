use Rattle.std.proofs.Common.{◌∙◌, ◌<◌, arith, length, refl, subst, sym}
use Rattle.std.proofs.lemmas.List.Elements.{All-get_or}
use Rattle.std.proofs.lemmas.Option.{get_or_from_slice_get, slice_get_within}
use Rattle.ca_planes.specs.Trits.{state_in, trit_in}
use Rattle.ca_every_vector.proofs.ListLemmas.{same_more, same_all}
use Rattle.ca_every_vector.proofs.LaneSpreadLemmas.{state_length}
use Rattle.ca_every_vector.proofs.lane_stays.restore_lanes.Goals as goal

pub loop-place-preserved : goal.loop-place-preserved
loop-place-preserved c =
    let net = c.entry-net.result in
    let nodes = length c.args.from.now.zeros.items in
    let known : net < length c.args.from.now.zeros.items =
    subst (λ n. n < length c.args.from.now.zeros.items) (get_or_from_slice_get c.args.nets.now c.loop-place.place net net c.entry-net.ensures)
    (All-get_or (λ n. n < length c.args.from.now.zeros.items) c.args.nets.now c.loop-place.place net (slice_get_within c.args.nets.now c.loop-place.place net c.entry-net.ensures) c.requires.known) in
    record {
      room = record { zeros = c.set.ensures.zeros ∙ c.loop-place.invariant.room.zeros; ones = c.set.ensures.ones ∙ c.loop-place.invariant.room.ones };
      same = λ lane low. same_more (state_in c.loop-place.values lane) (state_in c.set.new.self lane) (state_in c.args.from.now lane) c.args.nets.now c.loop-place.place net
          (trit_in c.get.result lane) c.entry-net.ensures (c.set.ensures.states lane) (c.get.ensures lane)
          (subst (λ n. net < n) (sym (state_length c.loop-place.values nodes c.loop-place.invariant.room lane)) known) (c.loop-place.invariant.same lane low);
    }

pub returns-clause-same : goal.returns-clause-same
returns-clause-same c = λ lane low.
    let nodes = length c.args.from.now.zeros.items in
    same_all (state_in c.loop-place.values lane) (state_in c.args.from.now lane) c.args.nets.now c.loop-place.place (let past = c.loop-place-test.false in omega arith)
    (state_length c.loop-place.values nodes c.loop-place.invariant.room lane ∙ sym (state_length c.args.from.now nodes (record { zeros = refl; ones = c.requires.from_room }) lane))
    (c.loop-place.invariant.same lane low)
