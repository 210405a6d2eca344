use Rattle.std.proofs.Common.{◌∙◌, ◌++◌, ap}
use Rattle.std.specs.Prelude.{codes}
use Rattle.ca_flat_text.specs.FlatText.{flat_text, lines_from, node_line, device_line}
use Rattle.ca_flat_text.proofs.LineLemmas.{four_pieces}
use Rattle.ca_flat_text.proofs.writing.write_flat.Goals as goal

pub returns : goal.returns
unfolding flat_text
returns c =
    four_pieces c.push_nodes.new.text c.append.new.self c.push_devices.new.text c.append-2.new.self
    (lines_from node_line 0 c.args.net.now.nodes) (codes ".SUBCKT FLAT N0 N1\n") (lines_from device_line 0 c.args.net.now.devices) (codes ".ENDS\n")
    (c.in_ok-push_nodes.ensures {u = tt} ∙ ap (λ t. t ++ lines_from node_line 0 c.args.net.now.nodes) c.new-text.ensures)
    (c.in_ok-append.ensures {u = tt}).ok (c.in_ok-push_devices.ensures {u = tt}) (c.in_ok-append-2.ensures {u = tt}).ok
