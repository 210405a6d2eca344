use Rattle.std.proofs.Common.{sym, ◌∙◌, ap}
use Rattle.ca_make.specs.NetlistText.{chip_text, netlist_text}
use Rattle.ca_make.specs.Chip.{unloaded}
use Rattle.ca_make.proofs.TextLemmas.{chip_pieces}
use Rattle.ca_make.proofs.writing.netlist.Goals as goal

pub returns : goal.returns
unfolding netlist_text
returns c =
    chip_pieces c.in_ok-gates.gates c.in_ok-outputs.outputs c.len-count.result c.args.n c.new-text.result
    c.push_header.new.text c.push_names.new.text c.push_instances.new.text c.push_assigns.new.text c.append.new.self
    c.len-count.ensures (sym c.in_ok-gates.ensures.count) c.new-text.ensures (c.in_ok-push_header.ensures {u = tt})
    (c.in_ok-push_names.ensures {u = tt}) (c.in_ok-push_instances.ensures {u = tt})
    (c.in_ok-push_assigns.ensures {u = tt}) (c.in_ok-append.ensures {u = tt}).ok
    ∙ ap (λ outputs. chip_text c.in_ok-gates.gates outputs) c.in_ok-outputs.ensures.outputs
    ∙ ap (λ gates. chip_text gates (unloaded gates)) c.in_ok-gates.ensures.gates
