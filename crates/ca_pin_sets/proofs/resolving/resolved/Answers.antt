use Rattle.std.proofs.Common.{◌≡◌, ◌<◌, ◌^◌, length, ap, sym, ◌∙◌, subst, arith}
use Rattle.ca_pin_sets.specs.Homes.{homes_of}
use Rattle.ca_cell.specs.declared.raw.RawCell.{RawCell}
use Rattle.ca_cell.specs.Rules.{IsRaw}
use Rattle.ca_pin_sets.specs.Resolved.{places_from, kept_nets, kept_devices, resolved}
use Rattle.ca_pin_sets.proofs.LinkLemmas.{places_same}
use Rattle.ca_pin_sets.proofs.RawLemmas.{length-homes_of, length-places, resolved_is_raw}
use Rattle.ca_pin_sets.proofs.resolving.resolved.Goals as goal

pub places_of-requires : goal.places_of-requires
places_of-requires c =
    let homes : c.deref.result.now ≡ homes_of c.args.raw.now = c.deref.ensures.value ∙ c.in_ok-homes.ensures in
    let count : length c.deref.result.now ≡ length c.args.raw.now.nets = ap length homes ∙ length-homes_of c.args.raw.now in
    let few : length c.args.raw.now.nets < 2 ^ 32 = c.requires.few_nets in
    omega (arith, count, few)

pub kept_nets-requires : goal.kept_nets-requires
kept_nets-requires c = ap length (c.deref-2.ensures.value ∙ c.in_ok-homes.ensures) ∙ length-homes_of c.args.raw.now

pub kept_devices-requires : goal.kept_devices-requires
kept_devices-requires c =
    let homes : c.deref.result.now ≡ homes_of c.args.raw.now = c.deref.ensures.value ∙ c.in_ok-homes.ensures in
    let places : c.deref-3.result.now ≡ places_from 0 0 c.deref.result.now = c.deref-3.ensures.value ∙ c.in_ok-places.ensures in
    let count : length c.deref-3.result.now ≡ length c.args.raw.now.nets =
    ap length places ∙ length-places 0 0 c.deref.result.now ∙ ap length homes ∙ length-homes_of c.args.raw.now in
    places_same (length c.args.raw.now.nets) (length c.deref-3.result.now) c.args.raw.now.devices c.as_slice.result.now (sym count)
    (sym c.as_slice.ensures) c.requires.places

pub returns-clause-kept : goal.returns-clause-kept
returns-clause-kept c =
    let raw = c.args.raw.now in
    let homes : c.deref.result.now ≡ homes_of raw = c.deref.ensures.value ∙ c.in_ok-homes.ensures in
    let homes_too : c.deref-2.result.now ≡ homes_of raw = c.deref-2.ensures.value ∙ c.in_ok-homes.ensures in
    let places : c.deref-3.result.now ≡ places_from 0 0 (homes_of raw) =
    c.deref-3.ensures.value ∙ c.in_ok-places.ensures ∙ ap (places_from 0 0) homes in
    let read : c.as_slice-pins.result.now ≡ raw.pins = c.as_slice-pins.ensures in
    let devices_read : c.as_slice.result.now ≡ raw.devices = c.as_slice.ensures in
    let pins : c.in_ok-copy_pins.field-0 ≡ raw.pins = c.in_ok-copy_pins.ensures ∙ read in
    let nets : c.in_ok-kept_nets.field-0 ≡ kept_nets 0 (homes_of raw) raw.nets =
    c.in_ok-kept_nets.ensures ∙ (λ j. kept_nets 0 (homes_too j) raw.nets) in
    let devices : c.in_ok-kept_devices.field-0 ≡ kept_devices raw.pins (places_from 0 0 (homes_of raw)) raw.devices =
    c.in_ok-kept_devices.ensures ∙ (λ j. kept_devices (read j) (places j) (devices_read j)) in
    let made : resolved raw
    ≡ (let it : RawCell = record { pins = c.in_ok-copy_pins.field-0; nets = c.in_ok-kept_nets.field-0; devices = c.in_ok-kept_devices.field-0 } in it) =
    λ j. record { pins = sym pins j; nets = sym nets j; devices = sym devices j } in
    subst IsRaw made (resolved_is_raw raw c.requires)
