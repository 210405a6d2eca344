use Rattle.std.proofs.Common.{◌∙◌, subst, take}
use Rattle.ca_pin_sets.specs.Groups.{groups_after}
use Rattle.ca_pin_sets.specs.code.Forest.{Realizes}
use Rattle.ca_pin_sets.proofs.FoldLemmas.{groups_step}
use Rattle.ca_pin_sets.proofs.groups.join_all.Goals as goal

pub loop-device-preserved : goal.loop-device-preserved
loop-device-preserved c = (
  c.join.ensures.forest,
  c.join.ensures.count ∙ c.loop-device.invariant.1,
  λ groups it.
      subst (Realizes c.join.new.parents.items)
      (groups_step c.args.pins groups c.args.devices.now c.loop-device.device-index c.device-item.result c.loop-device-test.true c.device-item.is)
      (c.join.ensures.joined (groups_after c.args.pins groups (take c.loop-device.device-index c.args.devices.now)) (c.loop-device.invariant.2 groups it)),
)
