use Rattle.ca_cell.proofs.DistinctLemmas.{defects_differ}
use Rattle.ca_cell.proofs.defect_laws.defect_names_differ.Goals as goal

pub returns : goal.returns
returns c = defects_differ
