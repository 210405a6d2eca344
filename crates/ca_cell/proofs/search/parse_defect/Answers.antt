use Rattle.ca_cell.proofs.FindLemmas.{named_defect, found_is_listed, no_name}
use Rattle.ca_cell.proofs.search.parse_defect.Goals as goal

pub returns-clause-some : goal.returns-clause-some
returns-clause-some c = named_defect c.args.cell.now c.args.text.now c.find_listed.result c.find_listed.ensures

pub returns-clause-listed : goal.returns-clause-listed
returns-clause-listed c = found_is_listed c.args.cell.now c.args.text.now c.find_listed.result c.find_listed.ensures

pub returns-clause-none : goal.returns-clause-none
returns-clause-none c = no_name c.args.cell.now c.args.text.now c.find_listed.result c.find_listed.ensures
