use Rattle.std.proofs.Common.{length}
use Rattle.ca_bridges.proofs.PartLemmas.{parts_some, first_sized, others_parts, others_stationed, made_good}
use Rattle.ca_bridges.proofs.generation.generated_over.Goals as goal

pub generated_by-requires-clause-some : goal.generated_by-requires-clause-some
generated_by-requires-clause-some g c =
    parts_some c.args.own.now.chip c.args.own.now.core c.args.budget c.args.clusters.now c.in_ok-parts.parts.items c.viewed.ensures.is_view.core_is
    c.in_ok-parts.ensures c.requires.stand_in

pub generated_by-requires-clause-sized : goal.generated_by-requires-clause-sized
generated_by-requires-clause-sized g c = λ first others is.
    first_sized c.args.own.now.chip c.args.own.now.core c.args.budget c.args.clusters.now c.in_ok-parts.parts.items c.viewed.ensures.is_view.core_is
    c.in_ok-parts.ensures c.requires.stand_in first others is (length c.in_ok-rest.rest) c.in_ok-rest.ensures

pub generated_by-requires-clause-parts : goal.generated_by-requires-clause-parts
generated_by-requires-clause-parts g c =
    others_parts c.args.own.now.chip c.args.own.now.core c.args.budget c.args.clusters.now c.in_ok-parts.parts.items c.viewed.ensures.is_view.core_is
    c.in_ok-parts.ensures c.requires.stand_in

pub generated_by-requires-clause-stations : goal.generated_by-requires-clause-stations
generated_by-requires-clause-stations g c = λ first others is.
    others_stationed c.args.own.now.chip c.args.own.now.core c.args.budget c.args.clusters.now c.in_ok-parts.parts.items c.viewed.ensures.is_view.core_is
    c.in_ok-parts.ensures c.requires.stand_in first others is c.args.stations c.requires.stations

pub returns : goal.returns
returns g c =
    made_good c.args.own.now.chip c.args.own.now.core c.args.budget c.args.clusters.now c.in_ok-parts.parts.items c.viewed.ensures.is_view.core_is
    c.in_ok-parts.ensures c.requires.stand_in c.args.stations c.generated_by.result c.generated_by.ensures
