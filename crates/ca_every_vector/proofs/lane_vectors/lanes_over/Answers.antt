use Rattle.std.proofs.Common.{◌≡◌, ◌<◌, ◌∙◌, sym, ap, subst, arith}
use Rattle.ca_net.specs.State.{value_at}
use Rattle.ca_net.specs.Trit.{IsBelow}
use Rattle.ca_cell.specs.Row.{vector_of}
use Rattle.ca_flat.specs.Chip.{inputs_at, net_of}
use Rattle.ca_planes.specs.Trits.{trit_in}
use Rattle.ca_planes.proofs.BitLemmas.{in_all}
use Rattle.ca_every_vector.specs.code.Lanes.{values_of}
use Rattle.ca_every_vector.proofs.LaneLemmas.{is_both}
use Rattle.ca_every_vector.proofs.VectorLemmas.{digit_here}
use Rattle.ca_every_vector.proofs.lane_vectors.lanes_over.Goals as goal

pub loop-pin-init : goal.loop-pin-init
loop-pin-init c = λ lane low over. in_all lane low

pub loop-pin-preserved : goal.loop-pin-preserved
loop-pin-preserved c = λ lane low over.
    let core = c.args.chip.now.core in
    let u = c.args.u in
    let pin = c.loop-pin.pin in
    let within : pin < inputs_at core u = let e = c.inputs_at-count.ensures in let less = c.loop-pin-test.true in omega arith in
    let value : values_of c.args.values.now lane (net_of core u pin) ≡ trit_in c.get-value.result lane =
    ap (values_of c.args.values.now lane) (sym c.pin_net.ensures) ∙ sym (c.get-value.ensures lane) in
    let digit : value_at (vector_of (inputs_at core u) c.args.number) pin ≡ c.digit.result =
    digit_here (inputs_at core u) c.args.number pin c.inputs_at-count.result c.digit.result within c.inputs_at-count.ensures c.digit.ensures in
    let here : IsBelow (trit_in c.get-value.result lane) c.digit.result =
    subst (λ v. IsBelow v c.digit.result) value (subst (IsBelow (values_of c.args.values.now lane (net_of core u pin))) digit (over pin (omega arith))) in
    c.both-lanes.ensures lane ∙ is_both _ _ (c.loop-pin.invariant lane low (λ p less. over p (omega arith))) (c.lanes_below.ensures lane low here)

pub returns : goal.returns
returns c = λ lane low over. c.loop-pin.invariant lane low (λ pin less. over pin (let e = c.inputs_at-count.ensures in omega arith))
