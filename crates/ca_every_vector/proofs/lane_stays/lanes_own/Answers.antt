use Rattle.std.proofs.Common.{◌+◌, ◌<◌, ◌≡◌, ◌≢◌, ◌∙◌, ℕ, inl, inr, ap, sym, subst, arith}
use Rattle.std.proofs.lemmas.Bool.{cases_eq}
use Rattle.ca_net.specs.declared.trit.Trit.TheVariants.{X}
use Rattle.ca_planes.specs.Trits.{state_in, trit_in}
use Rattle.ca_flat.specs.Chip.{net_of, output_net}
use Rattle.ca_every_vector.specs.code.Lanes.{values_of}
use Rattle.ca_every_vector.proofs.LaneSpreadLemmas.{both_lanes, own_stays}
use Rattle.ca_every_vector.proofs.lane_stays.lanes_own.Goals as goal

pub loop-output-preserved : goal.loop-output-preserved
loop-output-preserved c =
    let core = c.args.chip.now.core in
    let values = c.args.values.now in
    let output = c.loop-output.output in
    let on : c.pin_net.result ≡ output_net core c.args.u output = c.pin_net.ensures ∙ ap (λ k. net_of core c.args.u (k + output)) c.inputs_at-first.ensures in
    both_lanes c.both-lanes.result c.loop-output.lanes c.lanes_definite.result
    (λ lane. (o : ℕ) → o < output → values_of values lane (output_net core c.args.u o) ≢ X) (λ lane. trit_in c.get-value.result lane ≢ X)
    (λ lane. (o : ℕ) → o < output + 1 → values_of values lane (output_net core c.args.u o) ≢ X)
    c.both-lanes.ensures c.loop-output.invariant c.lanes_definite.ensures
    (λ lane low so_far here o less. elim (cases_eq o output) [
      | inl e ↦ subst (λ k. values_of values lane (output_net core c.args.u k) ≢ X) (sym e) (subst (λ v. v ≢ X) (c.get-value.ensures lane ∙ ap (values_of values lane) on) here)
      | inr other ↦ so_far o (omega (arith, other))
    ])

pub returns : goal.returns
returns c = λ lane low has. own_stays c.args.chip.now.core c.args.u (state_in c.args.values.now lane) (λ output within. c.loop-output.invariant lane low has output
    (let past = c.loop-output-test.false in let end = c.outputs_at-output-end.ensures in omega arith))
