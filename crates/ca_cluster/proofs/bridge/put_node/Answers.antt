use Rattle.std.proofs.Common.{◌++◌, ◌∙◌, ap}
use Rattle.ca_lex.specs.Words.{upper_case}
use Rattle.ca_cell.proofs.NameLemmas.{name_is_found}
use Rattle.ca_cluster.proofs.bridge.put_node.Goals as goal

pub returns : goal.returns
returns c =
    c.in_ok-append.ensures.ok
    ∙ ap (λ bytes. c.args.text.now ++ bytes)
    (c.as_bytes-2.ensures ∙ (c.in_ok-name.ensures {u = tt}).ok
    ∙ ap upper_case (c.as_bytes.ensures ∙ name_is_found c.args.cell.now c.args.n.0 c.node_name.result.now c.node_name.ensures))
