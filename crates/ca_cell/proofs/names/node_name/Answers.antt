use Rattle.std.proofs.Common.{◌∙◌}
use Rattle.ca_cell.proofs.NameLemmas.{name_is_found}
use Rattle.ca_cell.proofs.names.node_name.Goals as goal

pub returns : goal.returns
returns c = c.as_bytes.ensures ∙ name_is_found c.args.cell.now c.args.n.0 c.node_name.result.now c.node_name.ensures
