use Rattle.std.proofs.Common.{◌≡◌, ◌+◌, ◌<◌, ◌∙◌, ap, sym, subst, arith}
use Rattle.ca_flat.specs.Flat.{inner_count}
use Rattle.ca_view.specs.Core.{core_of}
use Rattle.ca_merge.proofs.SeatLemmas.{cell_same}
use Rattle.ca_merge.proofs.DeviceLemmas.{in_hand, start_more, start_few, devices_more, inner_same}
use Rattle.ca_merge.proofs.seats.devices_of.Goals as goal

pub push_devices-requires : goal.push_devices-requires
push_devices-requires c = record {
  hand = in_hand c.args.of.now.chip.now c.args.of.now.members.now c.args.of.now.nets.now c.requires c.loop-k.k c.get-u.result.0 c.loop-k.start
      (subst (λ n. c.loop-k.k < n) c.len-k-end.ensures c.loop-k-test.true) c.get-u.ensures c.loop-k.invariant.start;
}

pub overflow_add-start : goal.overflow_add-start
overflow_add-start c =
    let hand = in_hand c.args.of.now.chip.now c.args.of.now.members.now c.args.of.now.nets.now c.requires c.loop-k.k c.get-u.result.0 c.loop-k.start
    (subst (λ n. c.loop-k.k < n) c.len-k-end.ensures c.loop-k-test.true) c.get-u.ensures c.loop-k.invariant.start in
    let same = cell_same c.args.of.now.chip.now c.args.of.now.members.now c.args.of.now.nets.now c.get-u.result.0 c.loop-k.start c.wired.ensures hand
    c.cell_of.result.now c.cell_of.ensures in
    let inner = inner_same c.args.of.now.chip.now c.get-u.result.0 c.cell_of.result.now same in
    let count = c.inner_count-start.ensures in
    let few = start_few c.args.of.now.chip.now c.args.of.now.members.now c.args.of.now.nets.now c.requires c.loop-k.k c.get-u.result.0 c.loop-k.start
    (subst (λ n. c.loop-k.k < n) c.len-k-end.ensures c.loop-k-test.true) c.get-u.ensures c.loop-k.invariant.start in
    omega arith

pub loop-k-preserved : goal.loop-k-preserved
loop-k-preserved c =
    let hand = in_hand c.args.of.now.chip.now c.args.of.now.members.now c.args.of.now.nets.now c.requires c.loop-k.k c.get-u.result.0 c.loop-k.start
    (subst (λ n. c.loop-k.k < n) c.len-k-end.ensures c.loop-k-test.true) c.get-u.ensures c.loop-k.invariant.start in
    let same = cell_same c.args.of.now.chip.now c.args.of.now.members.now c.args.of.now.nets.now c.get-u.result.0 c.loop-k.start c.wired.ensures hand
    c.cell_of.result.now c.cell_of.ensures in
    let inner = inner_same c.args.of.now.chip.now c.get-u.result.0 c.cell_of.result.now same in
    let count : c.inner_count-start.result ≡ inner_count (core_of c.args.of.now.chip.now) c.get-u.result.0 = c.inner_count-start.ensures ∙ sym inner in
    record {
      devices = devices_more c.args.of.now.chip.now c.args.of.now.members.now c.args.of.now.nets.now c.requires c.loop-k.k c.get-u.result.0 c.loop-k.start
          (subst (λ n. c.loop-k.k < n) c.len-k-end.ensures c.loop-k-test.true) c.get-u.ensures c.loop-k.invariant.start
          c.loop-k.devices c.push_devices.new.devices c.loop-k.invariant.devices (c.in_ok-push_devices.ensures {u = tt});
      start = ap (λ n. c.loop-k.start + n) count ∙ start_more c.args.of.now.chip.now c.args.of.now.members.now c.args.of.now.nets.now c.requires c.loop-k.k c.get-u.result.0 c.loop-k.start
          (subst (λ n. c.loop-k.k < n) c.len-k-end.ensures c.loop-k-test.true) c.get-u.ensures c.loop-k.invariant.start;
    }
