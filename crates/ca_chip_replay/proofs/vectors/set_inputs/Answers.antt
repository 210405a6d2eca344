use Rattle.std.proofs.Common.{◌≡◌, ℕ, suc, ◌+◌, ◌-◌, ◌<◌, length, drop, subst, sym, ap, ◌∙◌, arith}
use Rattle.std.specs.Prelude.{slice_index}
use Rattle.ca_net.specs.State.{value_at}
use Rattle.ca_flat.specs.Pair.{input_value}
use Rattle.ca_chip_replay.specs.code.Kept.{IsVector}
use Rattle.ca_chip_replay.proofs.VectorLemmas.{input_set}
use Rattle.ca_chip_replay.proofs.vectors.set_inputs.Goals as goal

pub overflow_add-from : goal.overflow_add-from
overflow_add-from g c =
    let few = c.linked.ensures.pinned.few in
    let within = c.requires.from in
    let count = c.input_count-inputs.ensures in
    omega (arith, few, within, count, c.loop-k-test.true)

pub loop-k-preserved : goal.loop-k-preserved
loop-k-preserved g c =
    let core = c.args.view.now.core in
    let bits = g.B.Bits.bits c.args.pair.now in
    let count : ℕ = c.input_count-inputs.result in
    let k : ℕ = count - (c.loop-k.k + 1) in
    let same : count - 1 - c.loop-k.k ≡ k = omega arith in
    let all = c.input_count-inputs.ensures in
    let lt : k < length core.inputs = omega (arith, all, c.loop-k-test.true) in
    let from : c.args.from + (count - 1 - c.loop-k.k) ≡ c.args.from + k = ap (λ (n : ℕ). c.args.from + n) same in
    let has = subst (λ (j : ℕ). IsVector (length c.args.vector.now) (length core.nets) (input_value (drop j core.inputs) bits (c.args.from + j)) c.loop-k.vector)
    (let e : count - c.loop-k.k ≡ suc k = omega (arith, c.loop-k-test.true) in e) c.loop-k.invariant in
    input_set (length c.args.vector.now) (length core.nets) c.requires.fits core.inputs bits c.args.from k c.input.result c.value.result c.loop-k.vector
    c.set.new.self lt (c.input.ensures ∙ ap (slice_index core.inputs) same)
    (subst (λ (n : ℕ). n < length core.nets) (sym (c.input.ensures ∙ ap (slice_index core.inputs) same)) (c.linked.ensures.pinned.within k lt))
    (c.value.ensures ∙ ap (value_at bits) from) c.set.ensures has
