use Rattle.std.proofs.Common.{◌≡◌, ◌<◌, ◌≤◌, ◌∙◌, ◌++◌, ap, sym, subst, length, map}
use Rattle.std.proofs.lemmas.List.{length-map, take_all}
use Rattle.ca_cell.specs.Raw.{device_of}
use Rattle.ca_cell.specs.declared.raw.RawCell.{RawCell}
use Rattle.ca_flat.specs.Chip.{cell_at}
use Rattle.ca_view.specs.Core.{core_of}
use Rattle.ca_merged.specs.Cluster.{seated}
use Rattle.ca_merge.proofs.SeatLemmas.{cell_same}
use Rattle.ca_merge.proofs.DeviceLemmas.{seated_more}
use Rattle.ca_merge.proofs.seats.push_devices.Goals as goal

pub loop-d-preserved : goal.loop-d-preserved
loop-d-preserved c =
    let same = cell_same c.args.of.now.chip.now c.args.of.now.members.now c.args.of.now.nets.now c.args.u.0 c.args.start c.wired.ensures c.requires.hand c.cell_of.result.now c.cell_of.ensures in
    let count : c.device_count-d-end.result ≡ length (cell_at (core_of c.args.of.now.chip.now) c.args.u.0).devices =
    c.device_count-d-end.ensures.count ∙ length-map c.cell_of.result.now.devices (device_of c.cell_of.result.now.pins)
    ∙ ap (λ (r : RawCell). length r.devices) (sym same) in
    seated_more (seated (core_of c.args.of.now.chip.now) c.args.of.now.members.now c.args.u.0) (cell_at (core_of c.args.of.now.chip.now) c.args.u.0).devices
    c.args.devices.now c.loop-d.devices c.push.new.self c.loop-d.d c.seated.result (subst (λ n. c.loop-d.d < n) count c.loop-d-test.true)
    c.seated.ensures c.loop-d.invariant ((c.in_ok-push.ensures {u = tt}).ok)

pub returns : goal.returns
returns c =
    let same = cell_same c.args.of.now.chip.now c.args.of.now.members.now c.args.of.now.nets.now c.args.u.0 c.args.start c.wired.ensures c.requires.hand c.cell_of.result.now c.cell_of.ensures in
    let count : c.device_count-d-end.result ≡ length (cell_at (core_of c.args.of.now.chip.now) c.args.u.0).devices =
    c.device_count-d-end.ensures.count ∙ length-map c.cell_of.result.now.devices (device_of c.cell_of.result.now.pins)
    ∙ ap (λ (r : RawCell). length r.devices) (sym same) in
    c.loop-d.invariant
    ∙ ap (λ xs. c.args.devices.now ++ map (seated (core_of c.args.of.now.chip.now) c.args.of.now.members.now c.args.u.0) xs)
    (take_all c.loop-d.d (cell_at (core_of c.args.of.now.chip.now) c.args.u.0).devices (subst (λ n. n ≤ c.loop-d.d) count c.loop-d-test.false))
