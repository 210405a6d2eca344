use Rattle.std.proofs.Common.{◌+◌, ◌≡◌, ◌≢◌, ◌∙◌, ℕ, ap, sym, subst, arith}
use Rattle.ca_net.specs.declared.trit.Trit.TheVariants.{X}
use Rattle.ca_planes.specs.Trits.{state_in, trit_in}
use Rattle.ca_flat.specs.Chip.{net_of, output_net}
use Rattle.ca_sweep.specs.Seen.{flipped_if, flipped_outputs, is_flipped}
use Rattle.ca_every_vector.specs.code.Lanes.{InLanes, values_of}
use Rattle.ca_every_vector.proofs.LaneSpreadLemmas.{AreFlippedTo, both_lanes, except_lanes, flipped_more, flipped_all}
use Rattle.ca_every_vector.proofs.lane_stays.lanes_flipped.Goals as goal

pub loop-output-preserved : goal.loop-output-preserved
loop-output-preserved c =
    let core = c.args.chip.now.core in
    let u = c.args.u in
    let values = c.args.values.now in
    let others = c.args.others.now in
    let output = c.loop-output.output in
    let on : c.pin_net-net.result ≡ output_net core c.args.u output = c.pin_net-net.ensures ∙ ap (λ k. net_of core c.args.u (k + output)) c.inputs_at-first.ensures in
    let value : (lane : ℕ) → trit_in c.get-value.result lane ≡ values_of values lane (output_net core c.args.u output) = λ lane.
    c.get-value.ensures lane ∙ ap (values_of values lane) on in
    let fine : InLanes c.except-fine.result (λ lane. (values_of values lane (output_net core c.args.u output) ≢ X)
    × (values_of others lane (output_net core c.args.u output) ≡ flipped_outputs core c.args.u (values_of values lane) c.args.flips output)) =
    except_lanes c.except-fine.result c.lanes_definite.result c.differ.result (λ lane. trit_in c.get-value.result lane ≢ X) (λ lane. trit_in c.get.result lane ≡ trit_in c.flipped-wanted.result lane)
    (λ lane. (values_of values lane (output_net core c.args.u output) ≢ X)
    × (values_of others lane (output_net core c.args.u output) ≡ flipped_outputs core c.args.u (values_of values lane) c.args.flips output))
    c.except-fine.ensures c.lanes_definite.ensures (λ lane none. (c.differ.ensures lane).0 none)
    (λ lane low definite same. (
      subst (λ v. v ≢ X) (value lane) definite,
      ap (values_of others lane) (sym on) ∙ sym (c.get.ensures lane) ∙ same ∙ c.flipped-wanted.ensures lane low
          ∙ ap (λ f. flipped_if f (trit_in c.get-value.result lane)) c.is_flipped.ensures ∙ ap (flipped_if (is_flipped c.args.flips output)) (value lane),
    )) in
    both_lanes c.both-lanes.result c.loop-output.lanes c.except-fine.result
    (λ lane. AreFlippedTo core c.args.u (state_in values lane) (state_in others lane) c.args.flips output)
    (λ lane. (values_of values lane (output_net core c.args.u output) ≢ X)
    × (values_of others lane (output_net core c.args.u output) ≡ flipped_outputs core c.args.u (values_of values lane) c.args.flips output))
    (λ lane. AreFlippedTo core c.args.u (state_in values lane) (state_in others lane) c.args.flips (output + 1))
    c.both-lanes.ensures c.loop-output.invariant fine
    (λ lane low so_far here. flipped_more core u (state_in values lane) (state_in others lane) c.args.flips output so_far here.0 here.1)

pub returns : goal.returns
returns c = λ lane low has.
    flipped_all c.args.chip.now.core c.args.u (state_in c.args.values.now lane) (state_in c.args.others.now lane) c.args.flips c.loop-output.output
    (let past = c.loop-output-test.false in let end = c.outputs_at-output-end.ensures in omega arith) (c.loop-output.invariant lane low has)
