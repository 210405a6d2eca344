use Rattle.std.proofs.Common.{◌≡◌, ◌+◌, ◌∙◌, ap, arith, inl, inr, sym, subst}
use Rattle.std.proofs.lemmas.Bool.{cases_eq}
use Rattle.ca_net.specs.State.{value_at}
use Rattle.ca_net.specs.declared.trit.Trit.TheVariants.{X}
use Rattle.ca_flat.specs.Chip.{net_of, output_net}
use Rattle.ca_every_vector.proofs.region.are_unknown.Goals as goal

pub loop-output-preserved : goal.loop-output-preserved
loop-output-preserved c = λ output less. elim (cases_eq output c.loop-output.output) [
  | inl e ↦ subst (λ k. value_at c.args.values.now (output_net c.args.chip.now.core c.args.w k) ≡ X) (sym e)
      (ap (value_at c.args.values.now) (sym (c.pin_net.ensures ∙ ap (λ k. net_of c.args.chip.now.core c.args.w (k + c.loop-output.output)) c.inputs_at-first.ensures))
      ∙ sym c.at.ensures ∙ c.is_same.ensures c.if-not-is_same.false)
  | inr other ↦ c.loop-output.invariant output (omega (arith, other))
]
