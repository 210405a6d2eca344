use Rattle.std.proofs.Common.{◌<◌, length, subst, arith}
use Rattle.ca_credit.specs.Defects.{Task}
use Rattle.ca_benches.proofs.PartLemmas.{station_within, own_task, end_of_station}
use Rattle.ca_benches.proofs.parts.faulty_at.Goals as goal

pub index-requires : goal.index-requires
index-requires g c = let within = station_within g.B.Simulator.task c.args.parts.now.items c.args.station c.requires.stationed in omega arith

pub faulty_end-requires : goal.faulty_end-requires
faulty_end-requires g c =
    subst (λ (task : Task). c.args.output < length task.chip.outputs)
    (own_task g.B.Simulator.task c.args.parts.now.items c.args.station c.requires.stationed c.index.result.now c.index.ensures)
    c.requires.output

pub returns : goal.returns
returns g c =
    end_of_station g.B.Simulator.task c.args.parts.now.items c.args.station c.requires.stationed c.index.result.now c.index.ensures
    g.B.Simulator.bits g.B.Simulator.aimed g.B.Simulator.aimed_in c.args.output c.faulty_end.result c.faulty_end.ensures
