use Rattle.std.proofs.Common.{◌∙◌, List, [], None, map, sym, ap, subst, arith}
use Rattle.ca_net.specs.declared.trit.Trit.{Trit}
use Rattle.ca_flat.specs.Chip.{Chip}
use Rattle.ca_credit.specs.Defects.{Task}
use Rattle.ca_credit.specs.Detection.{AreDetectedAlike}
use Rattle.ca_benches.specs.Benches.{no_chip}
use Rattle.ca_benches.specs.code.Parts.{aimed_in_at}
use Rattle.ca_benches.proofs.ListLemmas.{map_same, at_read}
use Rattle.ca_benches.proofs.PartLemmas.{station_within, place_within, own_task, own_listed}
use Rattle.ca_benches.proofs.parts.alike_at.Goals as goal

pub index_mut-requires : goal.index_mut-requires
index_mut-requires g c = let within = station_within g.B.Simulator.task c.args.parts.now.items c.args.station c.requires in omega arith

pub is_alike-requires : goal.is_alike-requires
is_alike-requires g c =
    place_within g.B.Simulator.task c.args.parts.now.items c.args.station c.requires c.index_mut.result.now c.index_mut.ensures.value

pub returns-clause-same_chip : goal.returns-clause-same_chip
returns-clause-same_chip g c granted =
    let parts = c.args.parts.now.items in
    let station = c.args.station in
    let bench = c.index_mut.result.now in
    let is = c.index_mut.ensures.value in
    ap (λ (own : Task). own.chip_of station.place) (own_task g.B.Simulator.task parts station c.requires bench is)
    ∙ c.is_alike.ensures.same_chip granted
    ∙ sym (at_read g.B.Simulator.aimed_in parts station.part bench no_chip (station_within g.B.Simulator.task parts station c.requires) is)

pub returns-clause-alike : goal.returns-clause-alike
returns-clause-alike g c one aimed granted =
    let parts = c.args.parts.now.items in
    let station = c.args.station in
    let bench = c.index_mut.result.now in
    let is = c.index_mut.ensures.value in
    let within = station_within g.B.Simulator.task parts station c.requires in
    subst (λ (own : List Trit). AreDetectedAlike (aimed_in_at (map g.B.Simulator.aimed_in parts) station.part) one station.defect own)
    (sym (at_read g.B.Simulator.bits parts station.part bench [] within is))
    (subst (λ (chip : Chip). AreDetectedAlike chip one station.defect (g.B.Simulator.bits bench))
    (sym (at_read g.B.Simulator.aimed_in parts station.part bench no_chip within is))
    (c.is_alike.ensures.alike one station.defect
    (sym (at_read g.B.Simulator.aimed parts station.part bench None within is) ∙ aimed)
    (own_listed g.B.Simulator.task parts station c.requires bench is) granted))

pub returns-clause-tasks : goal.returns-clause-tasks
returns-clause-tasks g c =
    map_same g.B.Simulator.task c.args.parts.now.items c.args.station.part c.index_mut.result.now c.is_alike.new.self c.index_mut.ensures.value c.is_alike.ensures.task

pub returns-clause-bits : goal.returns-clause-bits
returns-clause-bits g c =
    map_same g.B.Simulator.bits c.args.parts.now.items c.args.station.part c.index_mut.result.now c.is_alike.new.self c.index_mut.ensures.value c.is_alike.ensures.bits

pub returns-clause-aimed : goal.returns-clause-aimed
returns-clause-aimed g c =
    map_same g.B.Simulator.aimed c.args.parts.now.items c.args.station.part c.index_mut.result.now c.is_alike.new.self c.index_mut.ensures.value c.is_alike.ensures.aimed

pub returns-clause-aimed_in : goal.returns-clause-aimed_in
returns-clause-aimed_in g c =
    map_same g.B.Simulator.aimed_in c.args.parts.now.items c.args.station.part c.index_mut.result.now c.is_alike.new.self c.index_mut.ensures.value c.is_alike.ensures.aimed_in
