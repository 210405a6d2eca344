use Rattle.std.proofs.Common.{◌<◌, ℕ, List, None, length, map, sym, subst}
use Rattle.ca_net.specs.declared.trit.Trit.{Trit}
use Rattle.ca_benches.specs.Benches.{Joined}
use Rattle.std.specs.Prelude.{slice_index, Option}
use Rattle.ca_credit.specs.Detection.{IsNetEnd}
use Rattle.ca_benches.specs.code.Parts.{aimed_of, aimed_chip}
use Rattle.ca_benches.specs.declared.station.Station.{Station}
use Rattle.ca_benches.proofs.BenchLemmas.{aim_stationed, part_of, end_told}
use Rattle.ca_benches.proofs.benches.BenchesSimulator.faulty_end.Goals as goal

pub faulty_at-requires-clause-stationed : goal.faulty_at-requires-clause-stationed
faulty_at-requires-clause-stationed g c = aim_stationed _ _ _ _ _ _ _ _ _ c.self.invariant c.in-Some.aim c.in-Some.is

pub faulty_at-requires-clause-output : goal.faulty_at-requires-clause-output
faulty_at-requires-clause-output g c =
    let stationed = aim_stationed _ _ _ _ _ _ _ _ _ c.self.invariant c.in-Some.aim c.in-Some.is in
    subst (λ (outputs : List ℕ). c.args.output < length outputs)
    (sym (part_of _ _ _ _ _ _ _ _ _ c.self.invariant c.in-Some.aim stationed).stands_in.outputs)
    (subst (λ (v : Joined). c.args.output < length v.chip.outputs) (sym c.self.view_is) c.requires)

pub good_end-requires : goal.good_end-requires
good_end-requires g c = subst (λ (v : Joined). c.args.output < length v.chip.outputs) (sym c.self.view_is) c.requires

pub returns-in-Some : goal.returns-in-Some
returns-in-Some g c =
    let inside = c.self.inside in
    subst (λ (v : Joined). IsNetEnd v.aimed_in v.aimed v.bits (slice_index v.chip.outputs c.args.output) c.faulty_at.result) c.self.view_is
    (end_told g.B.Simulator.task g.B.Simulator.bits inside.good inside.parts.items inside.stations (g.B.Simulator.bits inside.good) _ inside.aim _ _
    c.self.invariant c.in-Some.aim c.in-Some.is c.args.output c.faulty_at.result c.faulty_at.ensures)

pub returns-in-None : goal.returns-in-None
returns-in-None g c =
    let inside = c.self.inside in
    let chip = (g.B.Simulator.task inside.good).chip in
    let net = slice_index chip.outputs c.args.output in
    subst (λ (v : Joined). IsNetEnd v.aimed_in v.aimed v.bits (slice_index v.chip.outputs c.args.output) c.good_end.result) c.self.view_is
    (subst (λ (a : Option Station). IsNetEnd (aimed_chip chip (map g.B.Simulator.task inside.parts.items) a) (aimed_of a) (g.B.Simulator.bits inside.good) net c.good_end.result)
    (sym c.in-None.is) c.good_end.ensures)
