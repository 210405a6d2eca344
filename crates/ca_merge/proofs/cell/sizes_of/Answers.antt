use Rattle.std.proofs.Common.{◌≡◌, ◌<◌, ◌^◌, ◌∙◌, length, sym, ap, subst, arith}
use Rattle.std.proofs.lemmas.List.{length-map}
use Rattle.ca_cell.specs.declared.raw.RawCell.{RawCell}
use Rattle.ca_cell.specs.Raw.{device_of}
use Rattle.ca_flat.specs.Chip.{cell_at}
use Rattle.ca_flat.specs.Flat.{inner_count}
use Rattle.ca_view.specs.Core.{core_of}
use Rattle.ca_merge.proofs.SeatLemmas.{cell_here}
use Rattle.ca_merge.proofs.DeviceLemmas.{inner_same}
use Rattle.ca_merge.proofs.SizeLemmas.{members_few, devices_few, inner_few, sum_step}
use Rattle.ca_merge.proofs.cell.sizes_of.Goals as goal

pub overflow_add-devices : goal.overflow_add-devices
overflow_add-devices c =
    let lt : c.loop-k.k < length c.args.of.now.members.now = subst (λ n. c.loop-k.k < n) c.len-k-end.ensures c.loop-k-test.true in
    let most : length c.args.of.now.members.now < 2 ^ 32 = members_few c.args.of.now.chip.now c.args.of.now.members.now c.wired.ensures c.requires.gates c.requires.are in
    let same = cell_here c.args.of.now.chip.now c.get.result.0 c.cell_of-cell.result.now c.cell_of-cell.ensures in
    let devices : c.device_count-devices.result ≡ length c.cell_of-cell.result.now.devices =
    c.device_count-devices.ensures.count ∙ length-map c.cell_of-cell.result.now.devices (device_of c.cell_of-cell.result.now.pins) in
    let few = devices_few c.cell_of-cell.result.now c.raw-raw.ensures.kept in
    let bound = c.loop-k.invariant.few_devices in
    omega arith

pub overflow_add-inner : goal.overflow_add-inner
overflow_add-inner c =
    let lt : c.loop-k.k < length c.args.of.now.members.now = subst (λ n. c.loop-k.k < n) c.len-k-end.ensures c.loop-k-test.true in
    let most : length c.args.of.now.members.now < 2 ^ 32 = members_few c.args.of.now.chip.now c.args.of.now.members.now c.wired.ensures c.requires.gates c.requires.are in
    let same = cell_here c.args.of.now.chip.now c.get.result.0 c.cell_of-cell.result.now c.cell_of-cell.ensures in
    let devices : c.device_count-devices.result ≡ length c.cell_of-cell.result.now.devices =
    c.device_count-devices.ensures.count ∙ length-map c.cell_of-cell.result.now.devices (device_of c.cell_of-cell.result.now.pins) in
    let few = devices_few c.cell_of-cell.result.now c.raw-raw.ensures.kept in
    let inner = inner_few c.cell_of-cell.result.now c.raw-raw.ensures.kept in
    let counted = c.inner_count-inner.ensures in
    let bound = c.loop-k.invariant.few_inner in
    omega arith

pub loop-k-preserved : goal.loop-k-preserved
loop-k-preserved c =
    let lt : c.loop-k.k < length c.args.of.now.members.now = subst (λ n. c.loop-k.k < n) c.len-k-end.ensures c.loop-k-test.true in
    let most : length c.args.of.now.members.now < 2 ^ 32 = members_few c.args.of.now.chip.now c.args.of.now.members.now c.wired.ensures c.requires.gates c.requires.are in
    let same = cell_here c.args.of.now.chip.now c.get.result.0 c.cell_of-cell.result.now c.cell_of-cell.ensures in
    let devices : c.device_count-devices.result ≡ length c.cell_of-cell.result.now.devices =
    c.device_count-devices.ensures.count ∙ length-map c.cell_of-cell.result.now.devices (device_of c.cell_of-cell.result.now.pins) in
    let few = devices_few c.cell_of-cell.result.now c.raw-raw.ensures.kept in
    let inner = inner_few c.cell_of-cell.result.now c.raw-raw.ensures.kept in
    let counted = c.inner_count-inner.ensures in
    let bound = c.loop-k.invariant in
    let bound_devices = bound.few_devices in
    let bound_inner = bound.few_inner in
    record {
      devices = sum_step (λ u. length (cell_at (core_of c.args.of.now.chip.now) u).devices) c.args.of.now.members.now c.loop-k.k c.get.result.0 c.loop-k.devices
          c.device_count-devices.result lt c.get.ensures bound.devices (devices ∙ ap (λ (r : RawCell). length r.devices) (sym same));
      inner = sum_step (inner_count (core_of c.args.of.now.chip.now)) c.args.of.now.members.now c.loop-k.k c.get.result.0 c.loop-k.inner
          c.inner_count-inner.result lt c.get.ensures bound.inner (counted ∙ sym (inner_same c.args.of.now.chip.now c.get.result.0 c.cell_of-cell.result.now same));
      few_devices = omega arith;
      few_inner = omega arith;
    }

pub returns-clause-few : goal.returns-clause-few
returns-clause-few c =
    let most : length c.args.of.now.members.now < 2 ^ 32 = members_few c.args.of.now.chip.now c.args.of.now.members.now c.wired.ensures c.requires.gates c.requires.are in
    let count = c.len-k-end.ensures in
    let end = c.loop-k.auto.k-end in
    let bound = c.loop-k.invariant.few_inner in
    omega arith
