use Rattle.std.proofs.Common.{arith}
use Rattle.std.specs.Prelude.{IsTrue, ◌↔◌}
use Rattle.ca_flat.specs.declared.chip_defect.ChipDefect.{ChipDefect}
use Rattle.ca_flat.specs.Chip.{Chip}
use Rattle.ca_credit.specs.Defects.{IsExposableIn}
use Rattle.ca_benches.proofs.PartLemmas.{station_within, place_within, of_station}
use Rattle.ca_benches.proofs.parts.is_exposable_at.Goals as goal

pub index-requires : goal.index-requires
index-requires g c = let within = station_within g.B.Simulator.task c.args.parts.now.items c.args.station c.requires in omega arith

pub is_exposable-requires : goal.is_exposable-requires
is_exposable-requires g c =
    place_within g.B.Simulator.task c.args.parts.now.items c.args.station c.requires c.index.result.now c.index.ensures

pub returns : goal.returns
returns g c =
    of_station g.B.Simulator.task c.args.parts.now.items c.args.station c.requires c.index.result.now c.index.ensures
    (λ (chip : Chip) (defect : ChipDefect). IsTrue c.is_exposable.result ↔ IsExposableIn chip defect) c.is_exposable.ensures
