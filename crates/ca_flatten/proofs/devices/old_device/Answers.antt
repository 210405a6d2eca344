use Rattle.std.proofs.Common.{◌≡◌, ◌∙◌, ◌+◌, sym, ap, arith}
use Rattle.std.specs.Prelude.{Some, length, slice_get}
use Rattle.ca_cell.specs.Raw.{circuit_of}
use Rattle.ca_cell.specs.Defect.{device_with}
use Rattle.ca_flat.specs.Flat.{old_devices}
use Rattle.ca_cell.proofs.CircuitWithLemmas.{slice_get-changed_from}
use Rattle.ca_flatten.proofs.devices.old_device.Goals as goal

pub returns-in-Some : goal.returns-in-Some
returns-in-Some c =
    let net = circuit_of c.args.cell.now in
    let same : 0 + c.args.d.0 ≡ c.args.d.0 = omega arith in
    ap (λ given. slice_get (old_devices net.devices (length net.nodes) given) c.args.d.0) c.in-Some.is
    ∙ slice_get-changed_from c.in-Some.defect (length net.nodes) 0 net.devices c.args.d.0 c.device-device.result c.device-device.ensures
    ∙ ap (λ place. Some (device_with c.in-Some.defect (length net.nodes) place c.device-device.result)) same
    ∙ ap (λ new. Some (device_with c.in-Some.defect new c.args.d.0 c.device-device.result)) (sym c.node_count.ensures.count)
    ∙ ap Some (sym c.changed_device.ensures)
