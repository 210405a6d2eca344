use Rattle.std.proofs.Common.{◌∙◌, ◌<◌, ap, arith, length, subst}
use Rattle.std.proofs.lemmas.List.{length-set}
use Rattle.std.proofs.lemmas.List.Elements.{All-get_or}
use Rattle.std.proofs.lemmas.Option.{get_or_from_slice_get, slice_get_within}
use Rattle.ca_every_vector.proofs.ListLemmas.{same_first, same_more, same_all}
use Rattle.ca_every_vector.proofs.lists.restore.Goals as goal

pub loop-place-init : goal.loop-place-init
loop-place-init c = record { room = c.requires.room; same = same_first c.args.values.now c.args.from.now c.args.nets.now c.requires.same }

pub at-requires : goal.at-requires
at-requires c =
    let net = c.entry-net.result in
    subst (λ n. n < length c.args.from.now) (get_or_from_slice_get c.args.nets.now c.loop-place.place net net c.entry-net.ensures)
    (All-get_or (λ n. n < length c.args.from.now) c.args.nets.now c.loop-place.place net (slice_get_within c.args.nets.now c.loop-place.place net c.entry-net.ensures) c.requires.known)

pub loop-place-preserved : goal.loop-place-preserved
loop-place-preserved c =
    let net = c.entry-net.result in
    let known : net < length c.args.from.now =
    subst (λ n. n < length c.args.from.now) (get_or_from_slice_get c.args.nets.now c.loop-place.place net net c.entry-net.ensures)
    (All-get_or (λ n. n < length c.args.from.now) c.args.nets.now c.loop-place.place net (slice_get_within c.args.nets.now c.loop-place.place net c.entry-net.ensures) c.requires.known) in
    record {
      room = ap length c.give.ensures ∙ length-set c.loop-place.values net c.at.result ∙ c.loop-place.invariant.room;
      same = same_more c.loop-place.values c.give.new.values c.args.from.now c.args.nets.now c.loop-place.place net c.at.result c.entry-net.ensures c.give.ensures c.at.ensures
          (let room = c.loop-place.invariant.room in omega arith) c.loop-place.invariant.same;
    }

pub returns : goal.returns
returns c = same_all c.loop-place.values c.args.from.now c.args.nets.now c.loop-place.place (let past = c.loop-place-test.false in omega arith) c.loop-place.invariant.room c.loop-place.invariant.same
