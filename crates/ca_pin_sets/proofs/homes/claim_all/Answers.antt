use Rattle.std.proofs.Common.{◌∙◌, ap}
use Rattle.ca_pin_sets.specs.Homes.{claimed_by}
use Rattle.ca_pin_sets.proofs.FoldLemmas.{owners_step}
use Rattle.ca_pin_sets.proofs.homes.claim_all.Goals as goal

pub loop-device-preserved : goal.loop-device-preserved
loop-device-preserved c = (
  c.claim_by.ensures.forest,
  c.claim_by.ensures.count ∙ c.loop-device.invariant.1,
  c.claim_by.ensures.as_many ∙ c.loop-device.invariant.2,
  λ groups it.
      let so_far = c.loop-device.invariant.3 groups it in (
        c.claim_by.ensures.kept groups so_far.0,
        c.claim_by.ensures.claimed groups so_far.0
            ∙ ap (claimed_by c.args.pins.now groups c.device-item.result) so_far.1
            ∙ owners_step c.args.pins.now groups c.args.owners.now.items c.args.devices.now c.loop-device.device-index c.device-item.result
            c.loop-device-test.true c.device-item.is,
      ),
)
