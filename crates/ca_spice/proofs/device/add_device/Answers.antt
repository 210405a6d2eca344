use Rattle.std.proofs.Common.{◌≡◌, map, refl}
use Rattle.ca_spice.specs.code.Views.{wiring_seen, sizes_seen}
use Rattle.ca_spice.proofs.CellLemmas.{sound_device, longer, named_grown, placed_grown}
use Rattle.ca_spice.proofs.device.add_device.Goals as goal

pub returns-clause-named : goal.returns-clause-named
returns-clause-named c =
    named_grown c.args.name.now c.args.device_names.now c.add-4.new.self c.args.devices.now c.push.new.self _ c.requires.named c.requires.distinct
    c.in_ok-add.ensures.names c.in_ok-push.ensures.ok c.in_ok-from_bytes.ensures.ok

pub returns-clause-placed : goal.returns-clause-placed
returns-clause-placed c =
    let named : c.add-4.new.self ≡ map (λ device. device.name) c.push.new.self =
    named_grown c.args.name.now c.args.device_names.now c.add-4.new.self c.args.devices.now c.push.new.self _ c.requires.named c.requires.distinct
    c.in_ok-add.ensures.names c.in_ok-push.ensures.ok c.in_ok-from_bytes.ensures.ok in
    placed_grown _ c.args.nets.now c.add.new.self c.add-2.new.self c.add-3.new.self c.add-4.new.self c.args.devices.now c.push.new.self _ c.requires.placed
    c.in_ok-push.ensures.ok named c.in_ok-add.ensures.few c.in_ok-source.ensures.few
    (longer _ _ _ c.in_ok-drain.ensures.names) (longer _ _ _ c.in_ok-gate.ensures.names) (longer _ _ _ c.in_ok-source.ensures.names)
    c.in_ok-drain.ensures.within c.in_ok-gate.ensures.within c.in_ok-source.ensures.within
    (sound_device c.args.table.now (sizes_seen c.args.sizes) (wiring_seen c.args.wiring) _ c.args.nets.now c.add.new.self refl c.requires.gate c.device_strength.ensures
    c.in_ok-drain.ensures.place c.in_ok-gate.ensures.place c.in_ok-drain.ensures.names)
