use Rattle.std.proofs.Common.{◌≡◌, ◌<◌, sym, ◌∙◌, ap, subst, arith, IsTrue}
use Rattle.ca_net.specs.State.{value_at}
use Rattle.ca_net.specs.Trit.{IsBelow}
use Rattle.ca_cell.specs.Raw.{is_input, role_count}
use Rattle.ca_cell.specs.declared.raw.RawCell.{RawCell}
use Rattle.ca_cell.specs.Row.{vector_of}
use Rattle.ca_flat.specs.Chip.{inputs_at, net_of}
use Rattle.ca_every_vector.proofs.VectorLemmas.{digit_here}
use Rattle.ca_every_vector.proofs.rows.is_over.Goals as goal

pub returns-then-not-below : goal.returns-then-not-below
returns-then-not-below c = λ over.
    let chip = c.args.chip.now.core in
    let pin = c.loop-pin.pin in
    let count : c.inputs-count.result ≡ inputs_at c.args.chip.now.core c.args.u = c.inputs-count.ensures.count ∙ ap (λ (raw : RawCell). role_count is_input raw.pins) c.cell.ensures in
    let within : c.loop-pin.pin < inputs_at c.args.chip.now.core c.args.u = omega arith in
    let value : value_at c.args.values.now (net_of c.args.chip.now.core c.args.u c.loop-pin.pin) ≡ c.get-value.result = ap (value_at c.args.values.now) (sym c.pin_net.ensures) ∙ sym c.get-value.ensures in
    let digit : value_at (vector_of (inputs_at c.args.chip.now.core c.args.u) c.args.number) c.loop-pin.pin ≡ c.digit.result =
    digit_here (inputs_at c.args.chip.now.core c.args.u) c.args.number c.loop-pin.pin c.inputs-count.result c.digit.result within count c.digit.ensures in
    let is : IsBelow c.get-value.result c.digit.result =
    subst (λ v. IsBelow v c.digit.result) value (subst (IsBelow (value_at c.args.values.now (net_of c.args.chip.now.core c.args.u c.loop-pin.pin))) digit (over.over c.loop-pin.pin within)) in
    subst IsTrue c.if-not-below.true (c.below.ensures.1 is)
