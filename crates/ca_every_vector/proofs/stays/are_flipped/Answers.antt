use Rattle.std.proofs.Common.{◌+◌, ◌≡◌, ◌≢◌, ◌∙◌, inl, inr, ap, sym, subst, arith}
use Rattle.std.proofs.lemmas.Bool.{cases_eq}
use Rattle.ca_net.specs.declared.trit.Trit.TheVariants.{X}
use Rattle.ca_net.specs.State.{value_at}
use Rattle.ca_flat.specs.Chip.{net_of, output_net}
use Rattle.ca_sweep.specs.Seen.{flipped_if, flipped_outputs, is_flipped}
use Rattle.ca_every_vector.proofs.stays.are_flipped.Goals as goal

pub loop-output-preserved : goal.loop-output-preserved
loop-output-preserved c =
    let core = c.args.chip.now.core in
    let values = c.args.values.now in
    let output = c.loop-output.output in
    let on : c.pin_net-net.result ≡ output_net core c.args.u output =
    c.pin_net-net.ensures ∙ ap (λ k. net_of core c.args.u (k + output)) c.inputs_at-first.ensures in
    let value : c.at-value.result ≡ value_at values (output_net core c.args.u output) = c.at-value.ensures ∙ ap (value_at values) on in
    record {
      own = λ o less. elim (cases_eq o output) [
        | inl e ↦ subst (λ k. value_at values (output_net core c.args.u k) ≢ X) (sym e) (subst (λ v. v ≢ X) value (c.is_known.ensures c.if-not-is_known.false))
        | inr other ↦ c.loop-output.invariant.own o (omega (arith, other))
      ];
      given = λ o less. elim (cases_eq o output) [
        | inl e ↦ subst (λ k. value_at c.args.others.now (output_net core c.args.u k) ≡ flipped_outputs core c.args.u (value_at values) c.args.flips k) (sym e)
            (ap (value_at c.args.others.now) (sym on) ∙ sym c.at-other.ensures ∙ c.is_same.ensures c.if-not-is_same.false ∙ c.flipped-wanted.ensures
            ∙ ap (λ f. flipped_if f c.at-value.result) c.is_flipped.ensures ∙ ap (flipped_if (is_flipped c.args.flips output)) value)
        | inr other ↦ c.loop-output.invariant.given o (omega (arith, other))
      ];
    }

pub returns : goal.returns
returns c = λ is.
    let past = c.loop-output-test.false in
    let end = c.outputs_at-output-end.ensures in
    record {
      own = λ output within. c.loop-output.invariant.own output (omega arith);
      given = λ output within. c.loop-output.invariant.given output (omega arith);
    }
