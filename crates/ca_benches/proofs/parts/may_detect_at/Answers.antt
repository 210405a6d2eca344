use Rattle.std.proofs.Common.{List, arith}
use Rattle.ca_net.specs.declared.trit.Trit.{Trit}
use Rattle.ca_flat.specs.declared.chip_defect.ChipDefect.{ChipDefect}
use Rattle.ca_flat.specs.Chip.{Chip}
use Rattle.ca_flat.specs.Pair.{IsShown}
use Rattle.ca_credit.specs.Detection.{IsAllowedByRows}
use Rattle.ca_benches.proofs.PartLemmas.{station_within, place_within, of_station_with}
use Rattle.ca_benches.proofs.parts.may_detect_at.Goals as goal

pub index-requires : goal.index-requires
index-requires g c = let within = station_within g.B.Simulator.task c.args.parts.now.items c.args.station c.requires in omega arith

pub may_detect-requires : goal.may_detect-requires
may_detect-requires g c =
    place_within g.B.Simulator.task c.args.parts.now.items c.args.station c.requires c.index.result.now c.index.ensures

pub returns-clause-undetected : goal.returns-clause-undetected
returns-clause-undetected g c denied =
    of_station_with g.B.Simulator.task c.args.parts.now.items c.args.station c.requires c.index.result.now c.index.ensures
    g.B.Simulator.bits (λ (chip : Chip) (defect : ChipDefect) (bits : List Trit). IsShown chip defect bits → ⊥)
    (λ defect at. c.may_detect.ensures.undetected defect at denied)

pub returns-clause-allowed : goal.returns-clause-allowed
returns-clause-allowed g c granted =
    of_station_with g.B.Simulator.task c.args.parts.now.items c.args.station c.requires c.index.result.now c.index.ensures
    g.B.Simulator.bits IsAllowedByRows (λ defect at. c.may_detect.ensures.allowed defect at granted)
