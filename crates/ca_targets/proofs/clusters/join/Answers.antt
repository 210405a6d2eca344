use Rattle.std.proofs.Common.{length, refl}
use Rattle.std.proofs.lemmas.Option.{slice_get_read}
use Rattle.ca_targets.specs.code.Steps.{IsFor}
use Rattle.ca_targets.proofs.ListLemmas.{at_some, some_within}
use Rattle.ca_targets.proofs.CodeLemmas.{join_steps}
use Rattle.ca_targets.proofs.clusters.join.Goals as goal

pub add_short-requires-clause-for_it : goal.add_short-requires-clause-for_it
add_short-requires-clause-for_it c =
    let P = IsFor c.args.chip.now c.args.bridge in
    let clusters = c.args.clusters.now.items in
    at_some P clusters c.args.number c.index_mut.result.now
    (slice_get_read clusters (length clusters) c.args.number c.index_mut.result.now refl (some_within P clusters c.args.number c.requires.for_it)
    c.index_mut.ensures.value) c.requires.for_it

pub returns : goal.returns
returns c =
    join_steps c.args.chip.now c.args.bridge c.args.clusters.now.items _ c.args.number c.in_ok-place.place c.index_mut.result.now
    c.add_short.new.cluster c.requires.inner
    (some_within (IsFor c.args.chip.now c.args.bridge) c.args.clusters.now.items c.args.number c.requires.for_it) c.index_mut.ensures.value
    (c.in_ok-place.ensures {u = tt}) refl
