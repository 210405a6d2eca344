use Rattle.ca_examiner.proofs.MarkLemmas.{pins_more}
use Rattle.ca_examiner.proofs.pins.mark_pins.Goals as goal

pub loop-pin-preserved : goal.loop-pin-preserved
loop-pin-preserved c =
    pins_more c.args.chip.now.core c.args.others.now c.args.u c.args.pins.from c.loop-pin.pin c.pin_net.result
    c.args.marks.now.items c.loop-pin.marks.items c.mark_if.new.marks.items c.loop-pin.invariant c.pin_net.ensures c.mark_if.ensures
