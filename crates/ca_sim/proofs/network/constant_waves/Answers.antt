use Rattle.std.proofs.Common.{ℕ, suc, ◌≡◌, ◌+◌, ◌-◌, drop, subst, arith}
use Rattle.std.specs.Prelude.{Some, slice_get}
use Rattle.ca_flat.specs.Chip.{Constant}
use Rattle.ca_sim.specs.code.Network.{HasConstantsFrom}
use Rattle.ca_sim.proofs.Beginning.{constants_more}
use Rattle.ca_sim.proofs.network.constant_waves.Goals as goal

pub loop-k-preserved : goal.loop-k-preserved
loop-k-preserved c =
    let core = c.args.chip.now.core in
    let count = c.constant_count-count.result in
    let k : ℕ = count - (c.loop-k.k + 1) in
    let constant : Constant = record { net = c.constant-constant.result.net; value = c.constant-constant.result.value } in
    let at : slice_get core.constants k ≡ Some constant =
    subst (λ j. slice_get core.constants j ≡ Some constant) (let e : count - 1 - c.loop-k.k ≡ count - (c.loop-k.k + 1) = omega arith in e) c.constant-constant.ensures in
    let has = subst (λ j. HasConstantsFrom core (drop j core.constants) c.loop-k.waves)
    (let e : count - c.loop-k.k ≡ suc (count - (c.loop-k.k + 1)) = omega arith in e) c.loop-k.invariant in
    constants_more core k constant c.pair.result c.loop-k.waves c.set.new.self at (c.linked.ensures.pinned.constant_within k constant at)
    c.pair.ensures c.set.ensures has
