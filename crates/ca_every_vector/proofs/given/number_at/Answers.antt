use Rattle.std.proofs.Common.{◌≡◌, arith, subst, sym, ap, ◌∙◌}
use Rattle.ca_net.specs.State.{value_at}
use Rattle.ca_flat.specs.Chip.{net_of, inputs_at}
use Rattle.ca_flat.specs.Pair.{values_from}
use Rattle.ca_sweep.specs.code.Changes.{IsNumberOf}
use Rattle.ca_sweep.proofs.NumberLemmas.{number_none, number_more_zero, number_more_one, number_small, number_all}
use Rattle.ca_every_vector.proofs.given.number_at.Goals.{in-Zero, in-One}
use Rattle.ca_every_vector.proofs.given.number_at.Goals as goal

pub loop-pin-init : goal.loop-pin-init
loop-pin-init c = number_none (λ pin. value_at c.args.values.now (net_of c.args.chip.now.core c.args.w pin))

pub overflow_mul-number : goal.overflow_mul-number
overflow_mul-number c =
    let few = c.linked.ensures.nets.few_pins c.args.w c.requires.placed.known in
    let count = c.inputs_at-pin-end.ensures in
    let small = number_small _ c.loop-pin.pin c.loop-pin.number c.loop-pin.invariant (omega arith) in
    omega arith

pub overflow_mul-number-in-One : goal.overflow_mul-number-in-One
overflow_mul-number-in-One c =
    let few = c.linked.ensures.nets.few_pins c.args.w c.requires.placed.known in
    let count = c.inputs_at-pin-end.ensures in
    let small = number_small _ c.loop-pin.pin c.loop-pin.number c.loop-pin.invariant (omega arith) in
    omega arith

pub overflow_add-number : goal.overflow_add-number
overflow_add-number c =
    let few = c.linked.ensures.nets.few_pins c.args.w c.requires.placed.known in
    let count = c.inputs_at-pin-end.ensures in
    let small = number_small _ c.loop-pin.pin c.loop-pin.number c.loop-pin.invariant (omega arith) in
    omega arith

pub loop-pin-preserved : goal.loop-pin-preserved
loop-pin-preserved c =
    let core = c.args.chip.now.core in
    let value = λ (pin : _). value_at c.args.values.now (net_of core c.args.w pin) in
    elim c.match-at.branch [
      | in-Zero w ↦ number_more_zero (λ pin. value_at c.args.values.now (net_of core c.args.w pin)) c.loop-pin.pin c.loop-pin.number _ c.loop-pin.invariant
          (ap (value_at c.args.values.now) (sym c.pin_net.ensures) ∙ sym c.at.ensures ∙ w.in-Zero.is) w.number-is
      | in-One w ↦ number_more_one (λ pin. value_at c.args.values.now (net_of core c.args.w pin)) c.loop-pin.pin c.loop-pin.number _ c.loop-pin.invariant
          (ap (value_at c.args.values.now) (sym c.pin_net.ensures) ∙ sym c.at.ensures ∙ w.in-One.is) w.number-is
    ]

pub returns : goal.returns
returns c =
    let core = c.args.chip.now.core in
    let inputs : c.inputs_at-pin-end.result ≡ inputs_at core c.args.w = c.inputs_at-pin-end.ensures in
    let all : c.loop-pin.pin ≡ inputs_at core c.args.w = omega arith in
    subst (λ n. IsNumberOf n (values_from (λ pin. value_at c.args.values.now (net_of core c.args.w pin)) 0 n) c.loop-pin.number) all
    (number_all (λ pin. value_at c.args.values.now (net_of core c.args.w pin)) c.loop-pin.pin c.loop-pin.number c.loop-pin.invariant)
