use Rattle.std.proofs.Common.{arith, refl}
use Rattle.ca_response.proofs.TableLemmas.{decoded_more, decoded_all}
use Rattle.ca_response.proofs.table.pins_at.Goals as goal

pub loop-pin-preserved : goal.loop-pin-preserved
loop-pin-preserved c =
    decoded_more c.args.inputs c.args.place c.loop-pin._pin c.loop-pin.rest _ c.loop-pin.pins.items c.push.new.self.items c.coded_wave.result
    c.loop-pin.invariant c.loop-pin-test.true c.coded_wave.ensures refl c.push.ensures.items

pub returns : goal.returns
returns c = decoded_all c.args.inputs c.args.place c.loop-pin._pin c.loop-pin.rest c.loop-pin.pins.items c.loop-pin.invariant (omega arith)
