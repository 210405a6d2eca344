use Rattle.std.proofs.Common.{◌≢◌, ◌∙◌, inl, inr, sym, ap, subst, arith}
use Rattle.std.proofs.lemmas.Bool.{cases_eq}
use Rattle.ca_net.specs.declared.trit.Trit.TheVariants.{X}
use Rattle.ca_flat.specs.Chip.{net_of}
use Rattle.ca_every_vector.specs.code.Lanes.{values_of}
use Rattle.ca_every_vector.proofs.LaneLemmas.{both_true}
use Rattle.ca_every_vector.proofs.lane_vectors.lanes_known.Goals as goal

pub loop-pin-init : goal.loop-pin-init
loop-pin-init c = λ lane low has pin less. absurd (omega arith)

pub loop-pin-preserved : goal.loop-pin-preserved
loop-pin-preserved c = λ lane low has pin less.
    let core = c.args.chip.now.core in
    let parts = both_true _ _ (sym (c.both-lanes.ensures lane) ∙ has) in
    elim (cases_eq pin c.loop-pin.pin) [
      | inl e ↦ subst (λ p. values_of c.args.values.now lane (net_of core c.args.w p) ≢ X) (sym e)
          (λ unknown. c.lanes_definite.ensures lane low parts.1 (c.get-value.ensures lane ∙ ap (values_of c.args.values.now lane) c.pin_net.ensures ∙ unknown))
      | inr other ↦ c.loop-pin.invariant lane low parts.0 pin (omega (arith, other))
    ]

pub returns : goal.returns
returns c = λ lane low has pin less. c.loop-pin.invariant lane low has pin (let past = c.loop-pin-test.false in let e = c.inputs_at-pin-end.ensures in omega arith)
