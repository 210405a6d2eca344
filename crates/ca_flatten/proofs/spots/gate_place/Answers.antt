use Rattle.std.proofs.Common.{◌≡◌, ◌∙◌, ◌<◌, ◌≤◌, length, sym, ap, subst, arith}
use Rattle.ca_cell.specs.declared.raw.RawCell.{RawCell}
use Rattle.ca_cell.specs.Raw.{is_input, is_output, role_count, circuit_of}
use Rattle.ca_flat.specs.Chip.{circuit_at}
use Rattle.ca_flat.proofs.Places.{place_rail}
use Rattle.ca_flat.proofs.Spots.{shape}
use Rattle.ca_view.specs.Core.{core_of, rank_of}
use Rattle.ca_view.proofs.CoreIsChip.{core_is}
use Rattle.ca_flatten.proofs.GateLemmas.{library_known}
use Rattle.ca_flatten.proofs.SizeLemmas.{core_count, place_fits}
use Rattle.ca_flatten.proofs.PlaceLemmas.{on_pin, on_inner, on_new}
use Rattle.ca_flatten.proofs.spots.gate_place.Goals as goal

pub overflow_add-result-then-n-node_count : goal.overflow_add-result-then-n-node_count
overflow_add-result-then-n-node_count c =
    let core = core_of c.args.chip.now in
    let u = c.args.spot.instance.0 in
    let inputs = c.inputs.ensures.count ∙ ap (λ (raw : RawCell). role_count is_input raw.pins) c.cell_at-cell.ensures in
    let outputs = c.outputs.ensures.count ∙ ap (λ (raw : RawCell). role_count is_output raw.pins) c.cell_at-cell.ensures in
    let nodes : c.node_count.result ≡ length (circuit_at core u).nodes = c.node_count.ensures.count ∙ ap (λ (raw : RawCell). length (circuit_of raw).nodes) c.cell_at-cell.ensures in
    let same = on_inner core u c.args.n c.inputs.result c.outputs.result inputs outputs c.args.spot.inner c.if-n-outer.false
    (subst (λ count. c.args.n < count) nodes c.if-n-node_count.true) c.requires.spot.inner in
    let fits = place_fits c.args.chip.now c.wired.ensures c.args.defect c.requires.defect c.requires.few u c.args.n
    (library_known c.args.chip.now u c.requires.library) c.requires.within in
    omega arith

pub returns-then-n-lt2 : goal.returns-then-n-lt2
returns-then-n-lt2 c = sym (place_rail (core_of c.args.chip.now) c.args.spot.instance.0 c.args.n c.if-n-lt2.true)

pub returns-then-n-outer : goal.returns-then-n-outer
returns-then-n-outer c =
    on_pin (core_of c.args.chip.now) c.args.spot.instance.0 c.args.n c.inputs.result c.outputs.result
    (c.inputs.ensures.count ∙ ap (λ (raw : RawCell). role_count is_input raw.pins) c.cell_at-cell.ensures)
    (c.outputs.ensures.count ∙ ap (λ (raw : RawCell). role_count is_output raw.pins) c.cell_at-cell.ensures)
    c.gate_net.result c.if-n-lt2.false c.if-n-outer.true c.gate_net.ensures

pub returns-then-n-node_count : goal.returns-then-n-node_count
returns-then-n-node_count c =
    on_inner (core_of c.args.chip.now) c.args.spot.instance.0 c.args.n c.inputs.result c.outputs.result
    (c.inputs.ensures.count ∙ ap (λ (raw : RawCell). role_count is_input raw.pins) c.cell_at-cell.ensures)
    (c.outputs.ensures.count ∙ ap (λ (raw : RawCell). role_count is_output raw.pins) c.cell_at-cell.ensures)
    c.args.spot.inner c.if-n-outer.false
    (subst (λ count. c.args.n < count) (c.node_count.ensures.count ∙ ap (λ (raw : RawCell). length (circuit_of raw).nodes) c.cell_at-cell.ensures) c.if-n-node_count.true)
    c.requires.spot.inner

pub returns-else-n-node_count : goal.returns-else-n-node_count
returns-else-n-node_count c =
    let chip = c.args.chip.now in
    let u = c.args.spot.instance.0 in
    on_new (core_of chip) u c.args.n c.inputs.result c.outputs.result
    (c.inputs.ensures.count ∙ ap (λ (raw : RawCell). role_count is_input raw.pins) c.cell_at-cell.ensures)
    (c.outputs.ensures.count ∙ ap (λ (raw : RawCell). role_count is_output raw.pins) c.cell_at-cell.ensures)
    c.args.spot.new
    (shape (core_of chip) (rank_of chip) (core_is chip c.wired.ensures) u (let e = core_count chip in let lt = library_known chip u c.requires.library in omega arith)).counted
    (subst (λ count. count ≤ c.args.n) (c.node_count.ensures.count ∙ ap (λ (raw : RawCell). length (circuit_of raw).nodes) c.cell_at-cell.ensures) c.if-n-node_count.false)
    c.requires.spot.new
