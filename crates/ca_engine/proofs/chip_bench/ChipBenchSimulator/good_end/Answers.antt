use Rattle.std.proofs.Common.{◌<◌, ◌∙◌, length, slice_index, None, sym, ap, subst}
use Rattle.ca_net.specs.declared.wave.Wave.{Wave}
use Rattle.ca_response.specs.Gives.{wave_at}
use Rattle.ca_credit.specs.Detection.{IsNetEnd}
use Rattle.ca_engine.specs.ChipBench.{Benched}
use Rattle.ca_engine.proofs.BenchLemmas.{output_within, good_ends}
use Rattle.ca_engine.proofs.chip_bench.ChipBenchSimulator.good_end.Goals as goal

pub output-requires : goal.output-requires
output-requires g c =
    let listed = subst (λ (bench : Benched). c.args.output < length bench.chip.outputs) (sym c.self.view_is)
    c.requires in
    subst (λ nets. c.args.output < length nets) (sym c.self.invariant.outputs_are) listed

pub good-requires : goal.good-requires
good-requires g c =
    let inside = c.self.inside in
    let listed = subst (λ (bench : Benched). c.args.output < length bench.chip.outputs) (sym c.self.view_is)
    c.requires in
    let within = subst (λ nets. c.args.output < length nets) (sym c.self.invariant.outputs_are) listed in
    subst (λ net. net < length inside.judge.seen.chip.nets)
    (sym c.output.ensures.net)
    (output_within inside.judge.seen _ inside.defects inside.view.now.core.outputs inside.aim c.self.invariant
    c.args.output within)

pub returns : goal.returns
returns g c =
    let inside = c.self.inside in
    let seen = inside.judge.seen in
    let listed = subst (λ (bench : Benched). c.args.output < length bench.chip.outputs) (sym c.self.view_is)
    c.requires in
    let within = subst (λ nets. c.args.output < length nets) (sym c.self.invariant.outputs_are) listed in
    let net_is = c.output.ensures.net in
    let value_is = ap (λ (wave : Wave). wave.last) (c.good.ensures ∙ ap (wave_at seen.good) net_is) in
    subst (λ (bench : Benched). IsNetEnd bench.chip None bench.bits
    (slice_index bench.chip.outputs c.args.output) c.good.result.last) c.self.view_is
    (subst (IsNetEnd seen.chip None seen.pair (slice_index seen.chip.outputs c.args.output)) (sym value_is)
    (good_ends seen _ inside.defects inside.view.now.core.outputs inside.aim c.self.invariant
    c.definite_last_is_end.ensures c.exact.ensures c.args.output within))
