use Rattle.std.proofs.Common.{◌∙◌}
use Rattle.ca_view.specs.Core.{core_of}
use Rattle.ca_merge.proofs.SeatLemmas.{inputs_counted, outputs_counted}
use Rattle.ca_merge.proofs.SizeLemmas.{raw_is}
use Rattle.ca_merge.proofs.cell.raw_cell.Goals as goal

pub returns : goal.returns
returns c =
    raw_is (core_of c.args.of.now.chip.now) c.args.of.now.members.now c.in_ok-bare_pins.field-0 c.in_ok-bare_names.field-0 c.in_ok-devices_of.field-0
    c.len-inputs.result c.len-outputs.result c.args.nodes (c.in_ok-bare_pins.ensures {u = tt})
    (c.len-inputs.ensures ∙ inputs_counted c.args.of.now.chip.now c.args.of.now.members.now c.wired.ensures c.requires.seated.gates c.args.of.now.nets.now c.requires.seated.tables)
    (c.len-outputs.ensures ∙ outputs_counted c.args.of.now.chip.now c.args.of.now.members.now c.wired.ensures c.requires.seated.gates c.args.of.now.nets.now c.requires.seated.tables)
    (c.in_ok-bare_names.ensures {u = tt}) c.requires.nodes (c.in_ok-devices_of.ensures {u = tt})
