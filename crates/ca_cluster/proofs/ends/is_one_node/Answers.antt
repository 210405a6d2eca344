use Rattle.std.proofs.Common.{◌≡◌, ◌-◌, ap, ◌∙◌, arith}
use Rattle.ca_cell.specs.declared.raw.RawCell.{RawCell}
use Rattle.ca_cell.specs.Raw.{is_input, is_output, role_count}
use Rattle.ca_flat.specs.Chip.{inputs_at, outputs_at}
use Rattle.ca_view.specs.Core.{core_of}
use Rattle.ca_view.proofs.PartFacts.{pin_within}
use Rattle.ca_cluster.proofs.EndLemmas.{rail_apart, inner_apart, pins_one, eqb_says}
use Rattle.ca_cluster.proofs.ends.is_one_node.Goals as goal

pub pin_net-requires : goal.pin_net-requires
pin_net-requires c =
    let i : c.inputs.result ≡ inputs_at (core_of c.args.chip.now) c.args.bridge.instance.0 = c.inputs.ensures.count ∙ ap (λ (r : RawCell). role_count is_input r.pins) c.cell_at-cell.ensures in
    let o : c.outputs.result ≡ outputs_at (core_of c.args.chip.now) c.args.bridge.instance.0 = c.outputs.ensures.count ∙ ap (λ (r : RawCell). role_count is_output r.pins) c.cell_at-cell.ensures in
    let lt = c.if-outer-n.false in let ge = c.if-m-lt2.false in let ordered = c.requires.is_bridge.ordered in
    pin_within c.args.chip.now c.wired.ensures c.args.bridge.instance.0 c.requires.library (c.args.bridge.m.0 - 2) (omega arith)

pub pin_net-requires-2 : goal.pin_net-requires-2
pin_net-requires-2 c =
    let i : c.inputs.result ≡ inputs_at (core_of c.args.chip.now) c.args.bridge.instance.0 = c.inputs.ensures.count ∙ ap (λ (r : RawCell). role_count is_input r.pins) c.cell_at-cell.ensures in
    let o : c.outputs.result ≡ outputs_at (core_of c.args.chip.now) c.args.bridge.instance.0 = c.outputs.ensures.count ∙ ap (λ (r : RawCell). role_count is_output r.pins) c.cell_at-cell.ensures in
    let lt = c.if-outer-n.false in let ge = c.if-m-lt2.false in let ordered = c.requires.is_bridge.ordered in
    pin_within c.args.chip.now c.wired.ensures c.args.bridge.instance.0 c.requires.library (c.args.bridge.n.0 - 2) (omega arith)

pub returns-then-m-lt2 : goal.returns-then-m-lt2
returns-then-m-lt2 c = rail_apart c.args.chip.now c.wired.ensures c.args.bridge c.requires c.if-m-lt2.true

pub returns-then-outer-n : goal.returns-then-outer-n
returns-then-outer-n c =
    let i : c.inputs.result ≡ inputs_at (core_of c.args.chip.now) c.args.bridge.instance.0 = c.inputs.ensures.count ∙ ap (λ (r : RawCell). role_count is_input r.pins) c.cell_at-cell.ensures in
    let o : c.outputs.result ≡ outputs_at (core_of c.args.chip.now) c.args.bridge.instance.0 = c.outputs.ensures.count ∙ ap (λ (r : RawCell). role_count is_output r.pins) c.cell_at-cell.ensures in
    let past = c.if-outer-n.true in
    inner_apart c.args.chip.now c.wired.ensures c.args.bridge c.requires c.if-m-lt2.false (omega arith)

pub returns : goal.returns
returns c =
    let i : c.inputs.result ≡ inputs_at (core_of c.args.chip.now) c.args.bridge.instance.0 = c.inputs.ensures.count ∙ ap (λ (r : RawCell). role_count is_input r.pins) c.cell_at-cell.ensures in
    let o : c.outputs.result ≡ outputs_at (core_of c.args.chip.now) c.args.bridge.instance.0 = c.outputs.ensures.count ∙ ap (λ (r : RawCell). role_count is_output r.pins) c.cell_at-cell.ensures in
    let lt = c.if-outer-n.false in
    eqb_says c.pin_net.result.0 c.pin_net-2.result.0 _
    (pins_one c.args.chip.now c.wired.ensures c.args.bridge c.requires c.pin_net.result.0 c.pin_net-2.result.0 c.if-m-lt2.false (omega arith) c.pin_net.ensures c.pin_net-2.ensures)
