use Rattle.std.proofs.Common.{◌∙◌, arith}
use Rattle.ca_flat.specs.Flat.{inner_before}
use Rattle.ca_flat.proofs.Places.{inner_step}
use Rattle.ca_view.specs.Core.{core_of}
use Rattle.ca_flatten.proofs.SizeLemmas.{inner_fits, sizes_fit}
use Rattle.ca_flatten.proofs.ListLemmas.{no_devices, next_devices}
use Rattle.ca_flatten.proofs.devices.devices_of.Goals as goal

pub overflow_add-new : goal.overflow_add-new
overflow_add-new c =
    let fit = (sizes_fit (core_of c.args.chip.now) c.args.sizes c.requires.sizes).0 in
    let count = c.count.ensures in let total = c.requires.nets.total in omega arith

pub overflow_add-sizes : goal.overflow_add-sizes
overflow_add-sizes c =
    let fit = (sizes_fit (core_of c.args.chip.now) c.args.sizes c.requires.sizes).1 in omega arith

pub loop-u-init : goal.loop-u-init
unfolding inner_before
loop-u-init c = record {
  devices = c.in_ok-devices.ensures ∙ no_devices (core_of c.args.chip.now) c.args.defect;
  inner = omega arith;
}

pub overflow_add-inner : goal.overflow_add-inner
overflow_add-inner c =
    let fits = inner_fits c.args.chip.now c.args.defect (c.requires.sizes.few c.args.defect) c.loop-u.u (let e = c.parts-u-end.ensures in let lt = c.loop-u-test.true in omega arith) in
    let total = c.requires.nets.total in let count = c.count.ensures in
    let before = c.loop-u.invariant.inner in let more = c.inner_count-inner.ensures.count in omega arith

pub loop-u-preserved : goal.loop-u-preserved
loop-u-preserved c = record {
  devices = next_devices (core_of c.args.chip.now) c.args.defect c.loop-u.u c.loop-u.devices c.push_part.new.devices c.loop-u.invariant.devices (c.in_ok-push_part.ensures {u = tt});
  inner =
      let step = inner_step (core_of c.args.chip.now) c.loop-u.u in
      let before = c.loop-u.invariant.inner in let more = c.inner_count-inner.ensures.count in omega arith;
}
