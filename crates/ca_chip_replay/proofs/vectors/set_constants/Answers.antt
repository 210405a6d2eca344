use Rattle.std.proofs.Common.{◌≡◌, ℕ, suc, ◌+◌, ◌-◌, length, drop, subst, arith}
use Rattle.std.specs.Prelude.{Some, slice_get}
use Rattle.ca_flat.specs.Chip.{Constant}
use Rattle.ca_flat.specs.Pair.{input_value, constant_value}
use Rattle.ca_chip_replay.specs.code.Kept.{IsVector}
use Rattle.ca_chip_replay.proofs.VectorLemmas.{constant_set}
use Rattle.ca_chip_replay.proofs.vectors.set_constants.Goals as goal

pub loop-k-preserved : goal.loop-k-preserved
loop-k-preserved g c =
    let core = c.args.view.now.core in
    let bits = g.B.Bits.bits c.args.pair.now in
    let count : ℕ = c.constant_count-constants.result in
    let k : ℕ = count - (c.loop-k.k + 1) in
    let constant : Constant = record { net = c.constant-constant.result.net; value = c.constant-constant.result.value } in
    let at : slice_get core.constants k ≡ Some constant =
    subst (λ (j : ℕ). slice_get core.constants j ≡ Some constant) (let e : count - 1 - c.loop-k.k ≡ k = omega arith in e) c.constant-constant.ensures in
    let has = subst (λ (j : ℕ). IsVector (length c.args.vector.now) (length core.nets)
    (λ net. constant_value (drop j core.constants) (input_value core.inputs bits c.args.from net) net) c.loop-k.vector)
    (let e : count - c.loop-k.k ≡ suc k = omega (arith, c.loop-k-test.true) in e) c.loop-k.invariant in
    constant_set (length c.args.vector.now) (length core.nets) c.requires.fits core.constants (input_value core.inputs bits c.args.from) k constant
    c.loop-k.vector c.set.new.self at (c.linked.ensures.pinned.constant_within k constant at) c.set.ensures has
