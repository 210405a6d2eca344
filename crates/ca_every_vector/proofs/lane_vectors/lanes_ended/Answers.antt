use Rattle.std.proofs.Common.{◌≡◌, ◌∙◌, ◌+◌, inl, inr, sym, ap, subst, arith}
use Rattle.std.proofs.lemmas.Bool.{cases_eq}
use Rattle.ca_flat.specs.Chip.{net_of, output_net}
use Rattle.ca_static.specs.LastTable.{last_at}
use Rattle.ca_every_vector.specs.code.Lanes.{values_of}
use Rattle.ca_every_vector.proofs.LaneLemmas.{both_true}
use Rattle.ca_every_vector.proofs.lane_vectors.lanes_ended.Goals as goal

pub loop-output-init : goal.loop-output-init
loop-output-init c = λ lane low has output less. absurd (omega arith)

pub loop-output-preserved : goal.loop-output-preserved
loop-output-preserved c = λ lane low has output less.
    let core = c.args.chip.now.core in
    let parts = both_true _ _ (sym (c.both-lanes.ensures lane) ∙ has) in
    elim (cases_eq output c.loop-output.output) [
      | inl e ↦ subst (λ o. values_of c.args.values.now lane (output_net core c.args.w o) ≡ last_at c.args.table.now c.args.number o) (sym e)
          (ap (values_of c.args.values.now lane) (sym (c.pin_net.ensures ∙ ap (λ k. net_of core c.args.w (k + c.loop-output.output)) c.inputs_at-first.ensures))
          ∙ sym (c.get-value.ensures lane) ∙ (c.lanes_with.ensures lane low).0 parts.1 ∙ c.last.ensures)
      | inr other ↦ c.loop-output.invariant lane low parts.0 output (omega (arith, other))
    ]

pub returns : goal.returns
returns c = λ lane low has output less. c.loop-output.invariant lane low has output (let past = c.loop-output-test.false in let e = c.outputs_at-output-end.ensures in omega arith)
