use Rattle.std.proofs.Common.{◌<◌, ◌^◌, List, sym, subst, length}
use Rattle.std.specs.List.{All}
use Rattle.std.proofs.lemmas.List.Elements.{All-same}
use Rattle.ca_net.specs.declared.node.NodeKind.{NodeKind}
use Rattle.ca_net.specs.declared.device.Device.{Device}
use Rattle.ca_net.specs.Circuit.{HasSize, HasStrength, NamesWithin}
use Rattle.ca_net.specs.NetFault.{IsCause}
use Rattle.ca_net.specs.declared.flat_net.NetFault.{NetFault}
use Rattle.ca_flat.specs.Flat.{flat}
use Rattle.ca_view.specs.Core.{core_of}
use Rattle.ca_flatten.proofs.NetworkLemmas.{none_past, formed, gates_are_drains}
use Rattle.ca_flatten.proofs.network.network_of.Goals as goal

pub new-requires : goal.new-requires
new-requires c =
    let chip = c.args.chip.now in
    let net = flat (core_of chip) c.args.defect in
    let is = formed chip c.args.defect c.wired.ensures c.requires.defect c.requires.few in
    record {
      few_nodes = subst (λ (nodes : List NodeKind). length nodes < 2 ^ 32) (sym c.requires.nodes) is.few_nodes;
      few_devices = subst (λ (devices : List Device). length devices < 2 ^ 32) (sym c.requires.devices) is.few_devices;
      sizes = All-same HasSize c.args.nodes net.nodes c.requires.nodes is.sizes;
      strengths = All-same HasStrength c.args.devices net.devices c.requires.devices is.strengths;
      gates = gates_are_drains chip c.args.defect c.args.devices c.requires.devices c.wired.ensures;
    }

pub unreachable-requires : goal.unreachable-requires
unreachable-requires c =
    let chip = c.args.chip.now in
    let net = flat (core_of chip) c.args.defect in
    let is = formed chip c.args.defect c.wired.ensures c.requires.defect c.requires.few in
    let named = subst (λ (devices : List Device). All (NamesWithin (length c.args.nodes)) devices) (sym c.requires.devices)
    (subst (λ (nodes : List NodeKind). All (NamesWithin (length nodes)) net.devices) (sym c.requires.nodes) is.named) in
    none_past (length c.args.nodes) c.in-Err-BadNode.field-0-0.0 c.args.devices named
    (subst (λ (fault : NetFault). IsCause c.args.nodes c.args.devices fault) c.in-Err-BadNode.field-0-is (c.in-Err-BadNode.ensures {u = tt}).cause)
