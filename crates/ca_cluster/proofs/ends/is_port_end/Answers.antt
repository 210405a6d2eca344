use Rattle.std.proofs.Common.{◌≡◌, ◌-◌, ap, ◌∙◌, arith}
use Rattle.ca_cell.specs.declared.raw.RawCell.{RawCell}
use Rattle.ca_cell.specs.Raw.{is_input, role_count}
use Rattle.ca_flat.specs.Chip.{inputs_at}
use Rattle.ca_view.specs.Core.{core_of}
use Rattle.ca_view.proofs.PartFacts.{pin_within, pin_on_net}
use Rattle.ca_cluster.proofs.EndLemmas.{rail_no_port, past_no_port, pin_no_port, pin_port}
use Rattle.ca_cluster.proofs.ends.is_port_end.Goals as goal

pub pin_net-requires : goal.pin_net-requires
pin_net-requires c =
    let count : c.inputs-past.result ≡ inputs_at (core_of c.args.chip.now) c.args.u.0 = c.inputs-past.ensures.count ∙ ap (λ (r : RawCell). role_count is_input r.pins) c.cell_at.ensures in
    let lt = c.if-past-n.false in let ge = c.if-n-lt2.false in
    pin_within c.args.chip.now c.wired.ensures c.args.u.0 c.requires.library (c.args.n.0 - 2) (omega arith)

pub gate_on-requires : goal.gate_on-requires
gate_on-requires c = pin_on_net c.args.chip.now c.wired.ensures c.args.u.0 c.requires.library (c.args.n.0 - 2) c.pin_net.result.0 c.pin_net.ensures

pub returns-then-n-lt2 : goal.returns-then-n-lt2
returns-then-n-lt2 c = rail_no_port c.args.chip.now c.wired.ensures c.args.u.0 c.requires.library c.args.n.0 c.if-n-lt2.true

pub returns-then-past-n : goal.returns-then-past-n
returns-then-past-n c =
    let count : c.inputs-past.result ≡ inputs_at (core_of c.args.chip.now) c.args.u.0 = c.inputs-past.ensures.count ∙ ap (λ (r : RawCell). role_count is_input r.pins) c.cell_at.ensures in
    let past = c.if-past-n.true in
    past_no_port c.args.chip.now c.wired.ensures c.args.u.0 c.requires.library c.args.n.0 (omega arith)

pub returns-in-Some : goal.returns-in-Some
returns-in-Some c =
    let count : c.inputs-past.result ≡ inputs_at (core_of c.args.chip.now) c.args.u.0 = c.inputs-past.ensures.count ∙ ap (λ (r : RawCell). role_count is_input r.pins) c.cell_at.ensures in
    let lt = c.if-past-n.false in let ge = c.if-n-lt2.false in
    pin_no_port c.args.chip.now c.wired.ensures c.args.u.0 c.requires.library c.args.n.0 c.pin_net.result.0 (ge, omega arith) c.pin_net.ensures c.gate_on.result _ c.gate_on.ensures c.in-Some.is

pub returns-in-None : goal.returns-in-None
returns-in-None c =
    let count : c.inputs-past.result ≡ inputs_at (core_of c.args.chip.now) c.args.u.0 = c.inputs-past.ensures.count ∙ ap (λ (r : RawCell). role_count is_input r.pins) c.cell_at.ensures in
    let lt = c.if-past-n.false in let ge = c.if-n-lt2.false in
    pin_port c.args.chip.now c.wired.ensures c.args.u.0 c.requires.library c.args.n.0 c.pin_net.result.0 (ge, omega arith) c.pin_net.ensures c.gate_on.result c.gate_on.ensures c.in-None.is
