use Rattle.std.proofs.Common.{◌<◌, ℕ, List, length, sym, ap, subst}
use Rattle.std.proofs.lemmas.List.{length-map}
use Rattle.ca_net.specs.declared.trit.Trit.{Trit}
use Rattle.ca_flat.specs.declared.chip_defect.ChipDefect.{ChipDefect}
use Rattle.ca_flat.specs.Chip.{Chip}
use Rattle.ca_benches.specs.Benches.{Joined, task_in, defect_of}
use Rattle.ca_flat.specs.Pair.{IsShown}
use Rattle.ca_credit.specs.Detection.{IsAllowedByRows}
use Rattle.ca_benches.proofs.BenchLemmas.{station_of, told}
use Rattle.ca_benches.proofs.benches.BenchesSimulator.may_detect.Goals as goal

pub get-requires : goal.get-requires
get-requires g c =
    subst (λ (n : ℕ). c.args.place < n) (length-map c.self.inside.stations defect_of)
    (subst (λ (v : Joined). c.args.place < length v.defects) (sym c.self.view_is) c.requires)

pub may_detect_at-requires : goal.may_detect_at-requires
may_detect_at-requires g c = station_of _ c.self.inside.stations c.args.place c.get.result c.self.invariant.stationed c.get.ensures

pub returns-clause-undetected : goal.returns-clause-undetected
returns-clause-undetected g c defect at denied =
    let inside = c.self.inside in
    told g.B.Simulator.task g.B.Simulator.bits inside.good inside.parts.items inside.stations (g.B.Simulator.bits inside.good) _ inside.aim _ _
    c.self.invariant c.args.self.now (ap task_in c.self.view_is) (ap (λ (v : Joined). v.bits) c.self.view_is) c.args.place
    c.get.result c.get.ensures (λ (chip : Chip) (d : ChipDefect) (bits : List Trit). IsShown chip d bits → ⊥) defect
    (c.may_detect_at.ensures.undetected denied) at

pub returns-clause-allowed : goal.returns-clause-allowed
returns-clause-allowed g c defect at granted =
    let inside = c.self.inside in
    told g.B.Simulator.task g.B.Simulator.bits inside.good inside.parts.items inside.stations (g.B.Simulator.bits inside.good) _ inside.aim _ _
    c.self.invariant c.args.self.now (ap task_in c.self.view_is) (ap (λ (v : Joined). v.bits) c.self.view_is) c.args.place
    c.get.result c.get.ensures IsAllowedByRows defect (c.may_detect_at.ensures.allowed granted) at
