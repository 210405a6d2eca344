use Rattle.std.proofs.Common.{arith}
use Rattle.ca_view.specs.Core.{core_of}
use Rattle.ca_flatten.proofs.SizeLemmas.{none_counted, counted_more, all_sizes}
use Rattle.ca_flatten.proofs.sizes.sizes_of.Goals as goal

pub loop-u-init : goal.loop-u-init
loop-u-init c = record { counted = none_counted (core_of c.args.chip.now); few_inner = omega arith; few_devices = omega arith }

pub loop-u-preserved : goal.loop-u-preserved
loop-u-preserved c = record {
  counted = counted_more (core_of c.args.chip.now) c.loop-u.u c.loop-u.inner c.loop-u.devices c.inner_count-inner.result c.device_count-devices.result
      c.loop-u.invariant.counted c.inner_count-inner.ensures.count c.device_count-devices.ensures.count;
  few_inner = omega arith;
  few_devices = omega arith;
}

pub returns : goal.returns
returns c = all_sizes c.args.chip.now c.loop-u.u c.loop-u.inner c.loop-u.devices c.loop-u.invariant.counted
    (let e = c.parts-u-end.ensures in let low = c.loop-u.auto.u-end in let high = c.loop-u-test.false in omega arith)
    (let e = c.count.ensures in let t = c.requires.nets.total in omega arith) (omega arith)
