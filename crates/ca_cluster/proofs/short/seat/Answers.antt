use Rattle.std.proofs.Common.{◌≡◌, ◌+◌, ◌-◌, ◌∙◌, sym, ap, arith}
use Rattle.ca_cell.specs.declared.raw.RawCell.{RawCell}
use Rattle.ca_cell.specs.Raw.{is_input, is_output, role_count}
use Rattle.ca_flat.specs.Chip.{inputs_at, outputs_at}
use Rattle.ca_view.specs.Core.{core_of}
use Rattle.ca_view.proofs.CoreFacts.{core_count}
use Rattle.ca_view.proofs.PartFacts.{pin_within, library_known}
use Rattle.ca_merged.proofs.Seats.{seat_rail}
use Rattle.ca_cluster.proofs.ShortLemmas.{pin_seat, inner_seat, inner_member, seat_few}
use Rattle.ca_cluster.proofs.short.seat.Goals as goal

pub pin_net-requires : goal.pin_net-requires
pin_net-requires c =
    let i : c.inputs.result ≡ inputs_at (core_of c.args.of.now.chip.now) c.args.u.0 = c.inputs.ensures.count ∙ ap (λ (r : RawCell). role_count is_input r.pins) c.cell_at-cell.ensures in
    let o : c.outputs.result ≡ outputs_at (core_of c.args.of.now.chip.now) c.args.u.0 = c.outputs.ensures.count ∙ ap (λ (r : RawCell). role_count is_output r.pins) c.cell_at-cell.ensures in
    let lt = c.if-n-outer.true in let ge = c.if-n-lt2.false in
    pin_within c.args.of.now.chip.now c.wired.ensures c.args.u.0 c.requires.library (c.args.n.0 - 2) (omega arith)

pub inner_before-requires-clause-member : goal.inner_before-requires-clause-member
inner_before-requires-clause-member c =
    let i : c.inputs.result ≡ inputs_at (core_of c.args.of.now.chip.now) c.args.u.0 = c.inputs.ensures.count ∙ ap (λ (r : RawCell). role_count is_input r.pins) c.cell_at-cell.ensures in
    let o : c.outputs.result ≡ outputs_at (core_of c.args.of.now.chip.now) c.args.u.0 = c.outputs.ensures.count ∙ ap (λ (r : RawCell). role_count is_output r.pins) c.cell_at-cell.ensures in
    let past = c.if-n-outer.false in
    inner_member c.args.of.now.chip.now c.args.of.now.members.now c.args.of.now.made.now c.args.of.now.last.0 c.wired.ensures c.requires.hand c.args.u.0 c.args.n.0 c.requires.inside (omega arith)

pub returns-then-n-lt2 : goal.returns-then-n-lt2
returns-then-n-lt2 c = sym (seat_rail (core_of c.args.of.now.chip.now) c.args.of.now.members.now c.args.u.0 c.args.n.0 c.if-n-lt2.true)

pub returns-then-n-outer : goal.returns-then-n-outer
returns-then-n-outer c =
    let i : c.inputs.result ≡ inputs_at (core_of c.args.of.now.chip.now) c.args.u.0 = c.inputs.ensures.count ∙ ap (λ (r : RawCell). role_count is_input r.pins) c.cell_at-cell.ensures in
    let o : c.outputs.result ≡ outputs_at (core_of c.args.of.now.chip.now) c.args.u.0 = c.outputs.ensures.count ∙ ap (λ (r : RawCell). role_count is_output r.pins) c.cell_at-cell.ensures in
    c.net_seat.ensures
    ∙ pin_seat c.args.of.now.chip.now c.args.of.now.members.now c.args.of.now.made.now c.args.of.now.last.0 c.wired.ensures c.requires.hand c.args.u.0 c.args.n.0 c.requires.inside
    c.inputs.result c.outputs.result c.pin_net.result.0 i o c.requires.library c.if-n-lt2.false c.if-n-outer.true c.pin_net.ensures

pub returns-else-n-outer : goal.returns-else-n-outer
returns-else-n-outer c =
    let i : c.inputs.result ≡ inputs_at (core_of c.args.of.now.chip.now) c.args.u.0 = c.inputs.ensures.count ∙ ap (λ (r : RawCell). role_count is_input r.pins) c.cell_at-cell.ensures in
    let o : c.outputs.result ≡ outputs_at (core_of c.args.of.now.chip.now) c.args.u.0 = c.outputs.ensures.count ∙ ap (λ (r : RawCell). role_count is_output r.pins) c.cell_at-cell.ensures in
    ap (λ k. k + c.inner_before.result + (c.args.n.0 - (2 + c.inputs.result + c.outputs.result))) c.outer_count.ensures
    ∙ inner_seat c.args.of.now.chip.now c.args.of.now.members.now c.args.of.now.made.now c.args.of.now.last.0 c.wired.ensures c.requires.hand c.args.u.0 c.args.n.0 c.requires.inside
    c.inputs.result c.outputs.result c.inner_before.result i o c.if-n-outer.false c.inner_before.ensures

pub overflow_cast-result-then-n-outer : goal.overflow_cast-result-then-n-outer
overflow_cast-result-then-n-outer c =
    let i : c.inputs.result ≡ inputs_at (core_of c.args.of.now.chip.now) c.args.u.0 = c.inputs.ensures.count ∙ ap (λ (r : RawCell). role_count is_input r.pins) c.cell_at-cell.ensures in
    let o : c.outputs.result ≡ outputs_at (core_of c.args.of.now.chip.now) c.args.u.0 = c.outputs.ensures.count ∙ ap (λ (r : RawCell). role_count is_output r.pins) c.cell_at-cell.ensures in
    let few = seat_few c.args.of.now.chip.now c.args.of.now.members.now c.args.of.now.made.now c.args.of.now.last.0 c.wired.ensures c.requires.hand c.args.u.0 c.args.n.0 c.requires.inside
    c.requires.within (let n = core_count c.args.of.now.chip.now in let k = library_known c.args.of.now.chip.now c.args.u.0 c.requires.library in omega arith) in
    let is = c.net_seat.ensures
    ∙ pin_seat c.args.of.now.chip.now c.args.of.now.members.now c.args.of.now.made.now c.args.of.now.last.0 c.wired.ensures c.requires.hand c.args.u.0 c.args.n.0 c.requires.inside
    c.inputs.result c.outputs.result c.pin_net.result.0 i o c.requires.library c.if-n-lt2.false c.if-n-outer.true c.pin_net.ensures in
    omega arith

pub overflow_add-result : goal.overflow_add-result
overflow_add-result c =
    let i : c.inputs.result ≡ inputs_at (core_of c.args.of.now.chip.now) c.args.u.0 = c.inputs.ensures.count ∙ ap (λ (r : RawCell). role_count is_input r.pins) c.cell_at-cell.ensures in
    let o : c.outputs.result ≡ outputs_at (core_of c.args.of.now.chip.now) c.args.u.0 = c.outputs.ensures.count ∙ ap (λ (r : RawCell). role_count is_output r.pins) c.cell_at-cell.ensures in
    let few = seat_few c.args.of.now.chip.now c.args.of.now.members.now c.args.of.now.made.now c.args.of.now.last.0 c.wired.ensures c.requires.hand c.args.u.0 c.args.n.0 c.requires.inside
    c.requires.within (let n = core_count c.args.of.now.chip.now in let k = library_known c.args.of.now.chip.now c.args.u.0 c.requires.library in omega arith) in
    let is = ap (λ k. k + c.inner_before.result + (c.args.n.0 - (2 + c.inputs.result + c.outputs.result))) c.outer_count.ensures
    ∙ inner_seat c.args.of.now.chip.now c.args.of.now.members.now c.args.of.now.made.now c.args.of.now.last.0 c.wired.ensures c.requires.hand c.args.u.0 c.args.n.0 c.requires.inside
    c.inputs.result c.outputs.result c.inner_before.result i o c.if-n-outer.false c.inner_before.ensures in
    omega arith

pub overflow_add-result-else-n-outer : goal.overflow_add-result-else-n-outer
overflow_add-result-else-n-outer c =
    let i : c.inputs.result ≡ inputs_at (core_of c.args.of.now.chip.now) c.args.u.0 = c.inputs.ensures.count ∙ ap (λ (r : RawCell). role_count is_input r.pins) c.cell_at-cell.ensures in
    let o : c.outputs.result ≡ outputs_at (core_of c.args.of.now.chip.now) c.args.u.0 = c.outputs.ensures.count ∙ ap (λ (r : RawCell). role_count is_output r.pins) c.cell_at-cell.ensures in
    let few = seat_few c.args.of.now.chip.now c.args.of.now.members.now c.args.of.now.made.now c.args.of.now.last.0 c.wired.ensures c.requires.hand c.args.u.0 c.args.n.0 c.requires.inside
    c.requires.within (let n = core_count c.args.of.now.chip.now in let k = library_known c.args.of.now.chip.now c.args.u.0 c.requires.library in omega arith) in
    let is = ap (λ k. k + c.inner_before.result + (c.args.n.0 - (2 + c.inputs.result + c.outputs.result))) c.outer_count.ensures
    ∙ inner_seat c.args.of.now.chip.now c.args.of.now.members.now c.args.of.now.made.now c.args.of.now.last.0 c.wired.ensures c.requires.hand c.args.u.0 c.args.n.0 c.requires.inside
    c.inputs.result c.outputs.result c.inner_before.result i o c.if-n-outer.false c.inner_before.ensures in
    omega arith

pub overflow_cast-result-else-n-outer : goal.overflow_cast-result-else-n-outer
overflow_cast-result-else-n-outer c =
    let i : c.inputs.result ≡ inputs_at (core_of c.args.of.now.chip.now) c.args.u.0 = c.inputs.ensures.count ∙ ap (λ (r : RawCell). role_count is_input r.pins) c.cell_at-cell.ensures in
    let o : c.outputs.result ≡ outputs_at (core_of c.args.of.now.chip.now) c.args.u.0 = c.outputs.ensures.count ∙ ap (λ (r : RawCell). role_count is_output r.pins) c.cell_at-cell.ensures in
    let few = seat_few c.args.of.now.chip.now c.args.of.now.members.now c.args.of.now.made.now c.args.of.now.last.0 c.wired.ensures c.requires.hand c.args.u.0 c.args.n.0 c.requires.inside
    c.requires.within (let n = core_count c.args.of.now.chip.now in let k = library_known c.args.of.now.chip.now c.args.u.0 c.requires.library in omega arith) in
    let is = ap (λ k. k + c.inner_before.result + (c.args.n.0 - (2 + c.inputs.result + c.outputs.result))) c.outer_count.ensures
    ∙ inner_seat c.args.of.now.chip.now c.args.of.now.members.now c.args.of.now.made.now c.args.of.now.last.0 c.wired.ensures c.requires.hand c.args.u.0 c.args.n.0 c.requires.inside
    c.inputs.result c.outputs.result c.inner_before.result i o c.if-n-outer.false c.inner_before.ensures in
    omega arith
