use Rattle.std.proofs.Common.{◌≡◌, ◌<◌, arith, ap, subst, sym, ◌∙◌, length, true}
use Rattle.std.proofs.lemmas.List.{length-set}
use Rattle.ca_flat.specs.Chip.{inputs_at, outputs_at}
use Rattle.ca_sweep.specs.code.Pinned.{AreKept}
use Rattle.ca_sweep.proofs.LaneFindLemmas.{mark_kept, pins_more}
use Rattle.ca_sweep.proofs.pinned.mark_pins.Goals as goal

pub loop-pin-preserved : goal.loop-pin-preserved
loop-pin-preserved c =
    let core = c.args.chip.now.core in
    let inputs : c.inputs_at.result ≡ inputs_at core c.args.u = c.inputs_at.ensures in
    let outputs : c.outputs_at.result ≡ outputs_at core c.args.u = c.outputs_at.ensures in
    let below = c.loop-pin-test.true in
    let on = c.linked.ensures.linked.is_chip.on_nets c.args.u c.loop-pin.pin c.requires.known (omega arith) in
    let at = c.pin_net.ensures in
    let room = c.loop-pin.invariant.room in
    let within : c.pin_net.result < length c.loop-pin.marks.items = omega arith in
    record {
      marked = pins_more core c.args.u c.loop-pin.pin c.pin_net.result c.loop-pin.marks.items c.mark_at.new.marks.items at within c.mark_at.ensures c.loop-pin.invariant.marked;
      kept = λ net was. subst (AreKept c.loop-pin.marks.items) (sym c.mark_at.ensures) (mark_kept c.loop-pin.marks.items c.pin_net.result within) net (c.loop-pin.invariant.kept net was);
      room = ap length c.mark_at.ensures ∙ length-set c.loop-pin.marks.items c.pin_net.result true ∙ room;
    }

pub returns-clause-marked : goal.returns-clause-marked
returns-clause-marked c = λ placed pin below.
    let core = c.args.chip.now.core in
    let inputs : c.inputs_at.result ≡ inputs_at core c.args.u = c.inputs_at.ensures in
    let outputs : c.outputs_at.result ≡ outputs_at core c.args.u = c.outputs_at.ensures in
    let end = c.loop-pin-test.false in
    c.loop-pin.invariant.marked pin (omega arith)
