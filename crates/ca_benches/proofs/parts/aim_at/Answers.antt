use Rattle.std.proofs.Common.{◌∙◌, None, sym, ap, subst, arith}
use Rattle.ca_credit.specs.Defects.{Task, StandsIn}
use Rattle.ca_benches.specs.Benches.{no_chip}
use Rattle.ca_benches.proofs.ListLemmas.{map_same, at_written}
use Rattle.ca_benches.proofs.PartLemmas.{station_within, place_within, own_task, own_listed}
use Rattle.ca_benches.proofs.parts.aim_at.Goals as goal

pub index_mut-requires : goal.index_mut-requires
index_mut-requires g c = let within = station_within g.B.Simulator.task c.args.parts.now.items c.args.station c.requires in omega arith

pub aim-requires : goal.aim-requires
aim-requires g c =
    place_within g.B.Simulator.task c.args.parts.now.items c.args.station c.requires c.index_mut.result.now c.index_mut.ensures.value

pub returns-clause-aimed : goal.returns-clause-aimed
returns-clause-aimed g c =
    let parts = c.args.parts.now.items in
    let station = c.args.station in
    let bench = c.index_mut.result.now in
    let is = c.index_mut.ensures.value in
    let new = c.aim.new.self in
    let within = station_within g.B.Simulator.task parts station c.requires in
    let own = own_task g.B.Simulator.task parts station c.requires bench is in
    record {
      aimed = at_written g.B.Simulator.aimed parts station.part new None within ∙ c.aim.ensures.aimed
          ∙ own_listed g.B.Simulator.task parts station c.requires bench is;
      aimed_in = at_written g.B.Simulator.aimed_in parts station.part new no_chip within ∙ c.aim.ensures.aimed_in
          ∙ ap (λ (task : Task). task.chip_of station.place) (sym own);
      stands_in = subst (λ (task : Task). StandsIn task.chip (task.chip_of station.place)) (sym own) c.aim.ensures.stands_in;
    }

pub returns-clause-tasks : goal.returns-clause-tasks
returns-clause-tasks g c =
    map_same g.B.Simulator.task c.args.parts.now.items c.args.station.part c.index_mut.result.now c.aim.new.self c.index_mut.ensures.value c.aim.ensures.task

pub returns-clause-bits : goal.returns-clause-bits
returns-clause-bits g c =
    map_same g.B.Simulator.bits c.args.parts.now.items c.args.station.part c.index_mut.result.now c.aim.new.self c.index_mut.ensures.value c.aim.ensures.bits
