use Rattle.std.proofs.Common.{◌≡◌, ◌<◌, ◌∙◌, ap, subst, length, get_or}
use Rattle.ca_cell.specs.declared.raw.RawCell.{RawCell}
use Rattle.ca_flat.specs.Chip.{cell_at}
use Rattle.ca_view.specs.Core.{core_of}
use Rattle.ca_merge.proofs.SeatLemmas.{cell_same}
use Rattle.ca_merge.proofs.DeviceLemmas.{terminals, node_within, seated_is}
use Rattle.ca_merge.proofs.seats.seated.Goals as goal

pub seat-drain-requires-clause-within : goal.seat-drain-requires-clause-within
seat-drain-requires-clause-within c =
    let same = cell_same c.args.of.now.chip.now c.args.of.now.members.now c.args.of.now.nets.now c.args.u.0 c.args.start c.wired.ensures c.requires.hand c.cell_of-cell.result.now c.cell_of-cell.ensures in
    let here : c.index-as_slice-d.result ≡ get_or c.cell_of-cell.result.now.devices c.args.d c.index-as_slice-d.result =
    c.index-as_slice-d.is ∙ ap (λ xs. get_or xs c.args.d c.index-as_slice-d.result) (c.as_slice.ensures ∙ ap (λ (r : RawCell). r.devices) c.raw.ensures.same) in
    let lt : c.args.d < length c.cell_of-cell.result.now.devices = subst (λ (r : RawCell). c.args.d < length r.devices) same c.requires.within in
    let at = terminals c.cell_of-cell.result.now c.args.d c.index-as_slice-d.result c.device-device.result c.raw.ensures.is_raw lt here c.device-device.ensures in
    node_within c.cell_of-cell.result.now (cell_at (core_of c.args.of.now.chip.now) c.args.u.0) c.index-as_slice-d.result.drain c.device-device.result.a.0 c.raw.ensures.is_raw same
    at.places.drain at.drain

pub seat-gate-requires-clause-within : goal.seat-gate-requires-clause-within
seat-gate-requires-clause-within c =
    let same = cell_same c.args.of.now.chip.now c.args.of.now.members.now c.args.of.now.nets.now c.args.u.0 c.args.start c.wired.ensures c.requires.hand c.cell_of-cell.result.now c.cell_of-cell.ensures in
    let here : c.index-as_slice-d.result ≡ get_or c.cell_of-cell.result.now.devices c.args.d c.index-as_slice-d.result =
    c.index-as_slice-d.is ∙ ap (λ xs. get_or xs c.args.d c.index-as_slice-d.result) (c.as_slice.ensures ∙ ap (λ (r : RawCell). r.devices) c.raw.ensures.same) in
    let lt : c.args.d < length c.cell_of-cell.result.now.devices = subst (λ (r : RawCell). c.args.d < length r.devices) same c.requires.within in
    let at = terminals c.cell_of-cell.result.now c.args.d c.index-as_slice-d.result c.device-device.result c.raw.ensures.is_raw lt here c.device-device.ensures in
    node_within c.cell_of-cell.result.now (cell_at (core_of c.args.of.now.chip.now) c.args.u.0) c.index-as_slice-d.result.gate c.device-device.result.gate.0 c.raw.ensures.is_raw same
    at.places.gate at.gate

pub seat-source-requires-clause-within : goal.seat-source-requires-clause-within
seat-source-requires-clause-within c =
    let same = cell_same c.args.of.now.chip.now c.args.of.now.members.now c.args.of.now.nets.now c.args.u.0 c.args.start c.wired.ensures c.requires.hand c.cell_of-cell.result.now c.cell_of-cell.ensures in
    let here : c.index-as_slice-d.result ≡ get_or c.cell_of-cell.result.now.devices c.args.d c.index-as_slice-d.result =
    c.index-as_slice-d.is ∙ ap (λ xs. get_or xs c.args.d c.index-as_slice-d.result) (c.as_slice.ensures ∙ ap (λ (r : RawCell). r.devices) c.raw.ensures.same) in
    let lt : c.args.d < length c.cell_of-cell.result.now.devices = subst (λ (r : RawCell). c.args.d < length r.devices) same c.requires.within in
    let at = terminals c.cell_of-cell.result.now c.args.d c.index-as_slice-d.result c.device-device.result c.raw.ensures.is_raw lt here c.device-device.ensures in
    node_within c.cell_of-cell.result.now (cell_at (core_of c.args.of.now.chip.now) c.args.u.0) c.index-as_slice-d.result.source c.device-device.result.b.0 c.raw.ensures.is_raw same
    at.places.source at.source

pub returns : goal.returns
returns c =
    let same = cell_same c.args.of.now.chip.now c.args.of.now.members.now c.args.of.now.nets.now c.args.u.0 c.args.start c.wired.ensures c.requires.hand c.cell_of-cell.result.now c.cell_of-cell.ensures in
    let here : c.index-as_slice-d.result ≡ get_or c.cell_of-cell.result.now.devices c.args.d c.index-as_slice-d.result =
    c.index-as_slice-d.is ∙ ap (λ xs. get_or xs c.args.d c.index-as_slice-d.result) (c.as_slice.ensures ∙ ap (λ (r : RawCell). r.devices) c.raw.ensures.same) in
    let lt : c.args.d < length c.cell_of-cell.result.now.devices = subst (λ (r : RawCell). c.args.d < length r.devices) same c.requires.within in
    let at = terminals c.cell_of-cell.result.now c.args.d c.index-as_slice-d.result c.device-device.result c.raw.ensures.is_raw lt here c.device-device.ensures in
    seated_is c.args.of.now.chip.now c.args.of.now.members.now c.args.u.0 c.args.d c.cell_of-cell.result.now c.index-as_slice-d.result c.moved.result
    c.device-device.result c.seat-drain.result c.seat-gate.result c.seat-source.result same lt here at c.seat-drain.ensures c.seat-gate.ensures
    c.seat-source.ensures c.moved.ensures
