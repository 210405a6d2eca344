use Rattle.std.proofs.Common.{get_or}
use Rattle.std.proofs.lemmas.Option.{slice_get-get_or}
use Rattle.ca_levels.proofs.LeadLemmas.{no_device}
use Rattle.ca_block.proofs.TouchedLemmas.{devices_more}
use Rattle.ca_block.proofs.touched.mark_devices.Goals as goal

pub loop-i-preserved : goal.loop-i-preserved
loop-i-preserved c =
    let devices = c.args.devices.now in
    let i = c.loop-i.i in
    let before = c.loop-i.invariant in
    record {
      devices = devices_more devices c.args.homes.now c.args.changed.now c.loop-i.marks c.mark_if.new.marks i (get_or devices i no_device)
          (slice_get-get_or devices i no_device c.loop-i-test.true) (λ un. c.is_touched.ensures (c.mark_if.ensures.marked un)) c.mark_if.ensures.kept before.devices;
      kept = λ place un. before.kept place (c.mark_if.ensures.kept place un);
    }
