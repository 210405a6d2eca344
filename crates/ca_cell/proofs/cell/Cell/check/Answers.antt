use Rattle.ca_cell.proofs.CircuitLemmas.{few_nodes}
use Rattle.ca_cell.proofs.cell.Cell.check.Goals as goal

pub nodes_of-requires-clause-few : goal.nodes_of-requires-clause-few
nodes_of-requires-clause-few c = few_nodes c.args.raw.now c.in-None.ensures.kept

pub devices_of-requires-clause-few : goal.devices_of-requires-clause-few
devices_of-requires-clause-few c = few_nodes c.args.raw.now c.in-None.ensures.kept
