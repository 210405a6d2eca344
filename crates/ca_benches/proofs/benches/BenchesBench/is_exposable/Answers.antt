use Rattle.std.proofs.Common.{◌<◌, ℕ, List, length, sym, ap, subst}
use Rattle.std.proofs.lemmas.List.{length-map}
use Rattle.ca_net.specs.declared.trit.Trit.{Trit}
use Rattle.ca_flat.specs.declared.chip_defect.ChipDefect.{ChipDefect}
use Rattle.ca_flat.specs.Chip.{Chip}
use Rattle.ca_benches.specs.Benches.{Joined, task_in, defect_of}
use Rattle.std.specs.Prelude.{IsTrue, ◌↔◌}
use Rattle.ca_credit.specs.Defects.{IsExposableIn}
use Rattle.ca_benches.proofs.BenchLemmas.{station_of, told}
use Rattle.ca_benches.proofs.benches.BenchesBench.is_exposable.Goals as goal

pub get-requires : goal.get-requires
get-requires g c =
    subst (λ (n : ℕ). c.args.place < n) (length-map c.self.inside.stations defect_of)
    (subst (λ (v : Joined). c.args.place < length v.defects) (sym c.self.view_is) c.requires)

pub is_exposable_at-requires : goal.is_exposable_at-requires
is_exposable_at-requires g c = station_of _ c.self.inside.stations c.args.place c.get.result c.self.invariant.stationed c.get.ensures

pub returns : goal.returns
returns g c defect at =
    let inside = c.self.inside in
    told g.B.Simulator.task g.B.Simulator.bits inside.good inside.parts.items inside.stations (g.B.Simulator.bits inside.good) _ inside.aim _ _
    c.self.invariant c.args.self.now (ap task_in c.self.view_is) (ap (λ (v : Joined). v.bits) c.self.view_is) c.args.place
    c.get.result c.get.ensures
    (λ (chip : Chip) (d : ChipDefect) (bits : List Trit). IsTrue c.is_exposable_at.result ↔ IsExposableIn chip d) defect
    c.is_exposable_at.ensures at
