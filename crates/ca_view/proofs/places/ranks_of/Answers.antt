use Rattle.std.proofs.Common.{◌+◌, refl, arith}
use Rattle.std.proofs.lemmas.Option.{slice_get_within}
use Rattle.ca_view.proofs.PartFacts.{library_known}
use Rattle.ca_view.proofs.RankLemmas.{few_ordered, listed_is_library, ranked_more, all_ranked}
use Rattle.ca_view.proofs.places.ranks_of.Goals as goal

pub place-requires : goal.place-requires
place-requires c = listed_is_library c.args.chip.now c.loop-k.k c.instance-u.result.0 c.instance-u.ensures

pub overflow_add-place : goal.overflow_add-place
overflow_add-place c =
    let chip = c.args.chip.now in
    let within = slice_get_within chip.order c.place.result c.instance-u.result.0 c.place.ensures in
    let few = few_ordered chip c.wired.ensures in
    let count = c.parts.ensures in
    let fits = c.parts.auto in
    omega arith

pub index_mut-requires : goal.index_mut-requires
index_mut-requires c =
    let chip = c.args.chip.now in
    let known = library_known chip c.instance-u.result.0 (listed_is_library chip c.loop-k.k c.instance-u.result.0 c.instance-u.ensures) in
    let room = c.loop-k.invariant.room in omega arith

pub loop-k-preserved : goal.loop-k-preserved
loop-k-preserved c =
    ranked_more c.args.chip.now c.wired.ensures c.loop-k.k c.instance-u.result.0 c.place.result (c.place.result + 1) c.loop-k.ranks.items
    c.loop-k.invariant c.instance-u.ensures c.place.ensures refl

pub returns : goal.returns
returns c = all_ranked c.args.chip.now c.wired.ensures c.loop-k.k c.loop-k.ranks.items c.loop-k.invariant
    (let e = c.instances-k-end.ensures in let past = c.loop-k-test.false in omega arith)
