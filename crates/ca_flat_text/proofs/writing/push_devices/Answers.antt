use Rattle.ca_flat_text.specs.FlatText.{device_line}
use Rattle.ca_flat_text.proofs.LineLemmas.{text_more}
use Rattle.ca_flat_text.proofs.writing.push_devices.Goals as goal

pub loop-k-preserved : goal.loop-k-preserved
loop-k-preserved c =
    text_more device_line c.loop-k.k c.args.net.now.devices c.device.result c.args.text.now c.loop-k.text c.push_device.new.text
    c.device.ensures c.loop-k.invariant (c.in_ok-push_device.ensures {u = tt})
