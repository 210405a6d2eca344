use Rattle.std.proofs.Common.{◌∙◌, ◌≤◌, ◌∷◌, [], ◌++◌, length, ap, subst}
use Rattle.ca_cell.specs.declared.raw.RawCell.{RawCell}
use Rattle.ca_cell.specs.Raw.{circuit_of}
use Rattle.ca_view.specs.Core.{core_of}
use Rattle.ca_flatten.proofs.GateLemmas.{library_known}
use Rattle.ca_flatten.proofs.SizeLemmas.{device_named}
use Rattle.ca_flatten.proofs.ListLemmas.{device_at, more_devices, whole_devices}
use Rattle.ca_flatten.proofs.devices.push_gate.Goals as goal

pub moved-requires-clause-within : goal.moved-requires-clause-within
moved-requires-clause-within c =
    let chip = c.args.chip.now in
    let u = c.args.spot.instance.0 in
    device_named chip c.wired.ensures c.args.defect c.requires.defect c.requires.few u c.loop-d.d c.old_device-device.result
    (library_known chip u c.requires.library)
    (device_at (core_of chip) c.args.defect u c.cell_at-cell.result.now c.defect_at-here.result c.loop-d.d c.old_device-device.result
    c.cell_at-cell.ensures c.defect_at-here.ensures c.old_device-device.ensures)

pub loop-d-preserved : goal.loop-d-preserved
loop-d-preserved c =
    let chip = c.args.chip.now in
    let u = c.args.spot.instance.0 in
    more_devices (core_of chip) c.args.defect u c.loop-d.d c.old_device-device.result c.args.devices.now c.loop-d.devices c.push.new.self
    (device_at (core_of chip) c.args.defect u c.cell_at-cell.result.now c.defect_at-here.result c.loop-d.d c.old_device-device.result
    c.cell_at-cell.ensures c.defect_at-here.ensures c.old_device-device.ensures)
    c.loop-d.invariant
    (c.in_ok-push.ensures.ok ∙ ap (λ device. c.loop-d.devices ++ device ∷ []) c.moved.ensures)

pub returns : goal.returns
returns c =
    whole_devices (core_of c.args.chip.now) c.args.defect c.args.spot.instance.0 c.loop-d.d c.args.devices.now c.loop-d.devices
    (subst (λ count. count ≤ c.loop-d.d)
    (c.device_count-d-end.ensures.count ∙ ap (λ (raw : RawCell). length (circuit_of raw).devices) c.cell_at-cell.ensures) c.loop-d-test.false)
    c.loop-d.invariant
