use Rattle.std.proofs.Common.{List, arith}
use Rattle.ca_net.specs.declared.trit.Trit.{Trit}
use Rattle.ca_flat.specs.declared.chip_defect.ChipDefect.{ChipDefect}
use Rattle.ca_flat.specs.Chip.{Chip}
use Rattle.ca_credit.specs.Detection.{IsDecided}
use Rattle.ca_benches.proofs.ListLemmas.{map_same}
use Rattle.ca_benches.proofs.PartLemmas.{station_within, place_within, of_station_with}
use Rattle.ca_benches.proofs.parts.lasts_at.Goals as goal

pub index_mut-requires : goal.index_mut-requires
index_mut-requires g c = let within = station_within g.B.Simulator.task c.args.parts.now.items c.args.station c.requires in omega arith

pub by_lasts-requires : goal.by_lasts-requires
by_lasts-requires g c =
    place_within g.B.Simulator.task c.args.parts.now.items c.args.station c.requires c.index_mut.result.now c.index_mut.ensures.value

pub returns-clause-decided : goal.returns-clause-decided
returns-clause-decided g c =
    of_station_with g.B.Simulator.task c.args.parts.now.items c.args.station c.requires c.index_mut.result.now c.index_mut.ensures.value
    g.B.Simulator.bits (λ (chip : Chip) (defect : ChipDefect) (bits : List Trit). IsDecided chip defect bits c.by_lasts.result)
    c.by_lasts.ensures.decided

pub returns-clause-tasks : goal.returns-clause-tasks
returns-clause-tasks g c =
    map_same g.B.Simulator.task c.args.parts.now.items c.args.station.part c.index_mut.result.now c.by_lasts.new.self c.index_mut.ensures.value c.by_lasts.ensures.task

pub returns-clause-bits : goal.returns-clause-bits
returns-clause-bits g c =
    map_same g.B.Simulator.bits c.args.parts.now.items c.args.station.part c.index_mut.result.now c.by_lasts.new.self c.index_mut.ensures.value c.by_lasts.ensures.bits

pub returns-clause-aimed : goal.returns-clause-aimed
returns-clause-aimed g c =
    map_same g.B.Simulator.aimed c.args.parts.now.items c.args.station.part c.index_mut.result.now c.by_lasts.new.self c.index_mut.ensures.value c.by_lasts.ensures.aimed

pub returns-clause-aimed_in : goal.returns-clause-aimed_in
returns-clause-aimed_in g c =
    map_same g.B.Simulator.aimed_in c.args.parts.now.items c.args.station.part c.index_mut.result.now c.by_lasts.new.self c.index_mut.ensures.value c.by_lasts.ensures.aimed_in
