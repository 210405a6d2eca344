use Rattle.std.proofs.Common.{◌≤◌, ◌∙◌, sym, subst}
use Rattle.ca_cell.specs.declared.rule.TheConstants.{MOST_DEVICES}
use Rattle.ca_view.specs.Core.{core_of}
use Rattle.ca_merge.proofs.SizeLemmas.{devices_counted, many_devices, many_nodes}
use Rattle.ca_merge.proofs.cell.cluster_cell.Goals as goal

pub small_cell-requires-clause-few : goal.small_cell-requires-clause-few
small_cell-requires-clause-few c =
    subst (λ n. n ≤ MOST_DEVICES) (c.sizes_of-sizes.ensures.devices ∙ sym (devices_counted (core_of c.args.of.now.chip.now) c.args.of.now.members.now)) c.if-sizes-gt-MOST_DEVICES.false

pub returns-then-sizes-gt-MOST_DEVICES-clause-cause : goal.returns-then-sizes-gt-MOST_DEVICES-clause-cause
returns-then-sizes-gt-MOST_DEVICES-clause-cause c =
    many_devices (core_of c.args.of.now.chip.now) c.args.of.now.members.now c.sizes_of-sizes.result.devices
    (c.sizes_of-sizes.ensures.devices ∙ sym (devices_counted (core_of c.args.of.now.chip.now) c.args.of.now.members.now)) c.if-sizes-gt-MOST_DEVICES.true

pub returns-then-nodes-gt-MOST_NODES-clause-cause : goal.returns-then-nodes-gt-MOST_NODES-clause-cause
returns-then-nodes-gt-MOST_NODES-clause-cause c =
    many_nodes (core_of c.args.of.now.chip.now) c.args.of.now.members.now c.node_sum-nodes.result c.node_sum-nodes.ensures c.if-nodes-gt-MOST_NODES.true
    (subst (λ n. n ≤ MOST_DEVICES) (c.sizes_of-sizes.ensures.devices ∙ sym (devices_counted (core_of c.args.of.now.chip.now) c.args.of.now.members.now)) c.if-sizes-gt-MOST_DEVICES.false)
