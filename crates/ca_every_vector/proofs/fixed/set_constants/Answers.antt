use Rattle.std.proofs.Common.{◌≡◌, ℕ, suc, ◌+◌, ◌-◌, length, drop, subst, sym, arith}
use Rattle.std.specs.Prelude.{Some, slice_get}
use Rattle.std.proofs.lemmas.List.{drop_all}
use Rattle.ca_flat.specs.Chip.{Constant}
use Rattle.ca_every_vector.specs.code.Fixed.{AreFixedBy}
use Rattle.ca_every_vector.proofs.FixedLemmas.{fixed_none, fixed_more}
use Rattle.ca_every_vector.proofs.fixed.set_constants.Goals as goal

pub loop-k-init : goal.loop-k-init
loop-k-init c =
    let core = c.args.chip.now.core in
    subst (λ list. AreFixedBy list (length c.args.chip.now.core.nets) c.args.values.now)
    (sym (drop_all (c.constant_count-count.result - 0) c.args.chip.now.core.constants (let e = c.constant_count-count.ensures in omega arith)))
    (fixed_none (length core.nets) c.args.values.now c.requires)

pub loop-k-preserved : goal.loop-k-preserved
loop-k-preserved c =
    let core = c.args.chip.now.core in
    let count : ℕ = c.constant_count-count.result in
    let k : ℕ = count - (c.loop-k.k + 1) in
    let constant : Constant = record { net = c.constant-fixed.result.net; value = c.constant-fixed.result.value } in
    let at : slice_get core.constants k ≡ Some constant =
    subst (λ (j : ℕ). slice_get core.constants j ≡ Some constant) (let e : count - 1 - c.loop-k.k ≡ k = omega arith in e) c.constant-fixed.ensures in
    let has = subst (λ (j : ℕ). AreFixedBy (drop j core.constants) (length core.nets) c.loop-k.values)
    (let e : count - c.loop-k.k ≡ suc k = omega (arith, c.loop-k-test.true) in e) c.loop-k.invariant in
    fixed_more core.constants (length core.nets) k constant c.loop-k.values c.give.new.values at (c.linked.ensures.pinned.constant_within k constant at) c.give.ensures has
