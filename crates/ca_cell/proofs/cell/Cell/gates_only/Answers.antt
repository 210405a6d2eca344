use Rattle.ca_cell.proofs.NodeLemmas.{gates_only}
use Rattle.ca_cell.proofs.cell.Cell.gates_only.Goals as goal

pub returns : goal.returns
returns c = gates_only c.args.self.now c.raw-raw.ensures.kept
