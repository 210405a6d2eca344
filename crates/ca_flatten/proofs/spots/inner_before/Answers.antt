use Rattle.std.proofs.Common.{◌≡◌, ◌+◌, arith, refl}
use Rattle.ca_flat.specs.Flat.{inner_before}
use Rattle.ca_flat.proofs.Places.{inner_step}
use Rattle.ca_view.specs.Core.{core_of}
use Rattle.ca_flatten.proofs.SizeLemmas.{inner_fits}
use Rattle.ca_flatten.proofs.spots.inner_before.Goals as goal

pub loop-u-init : goal.loop-u-init
unfolding inner_before
loop-u-init c = refl

pub overflow_add-inner : goal.overflow_add-inner
overflow_add-inner c =
    let fits = inner_fits c.args.chip.now c.args.defect c.requires.few c.loop-u.u (let lt = c.requires.within in omega arith) in
    let before : c.loop-u.inner ≡ inner_before (core_of c.args.chip.now) c.loop-u.u = c.loop-u.invariant in
    let more = c.inner_count-inner.ensures.count in omega arith

pub loop-u-preserved : goal.loop-u-preserved
loop-u-preserved c =
    let before : c.loop-u.inner ≡ inner_before (core_of c.args.chip.now) c.loop-u.u = c.loop-u.invariant in
    let more = c.inner_count-inner.ensures.count in
    let step = inner_step (core_of c.args.chip.now) c.loop-u.u in
    let next : c.loop-u.inner + c.inner_count-inner.result ≡ inner_before (core_of c.args.chip.now) (c.loop-u.u + 1) = omega arith in next
