use Rattle.ca_make_laws.proofs.ChipReadLemmas.{chip_read, chip_has_tree}
use Rattle.ca_make_laws.proofs.laws.netlist_is_read.Goals as goal

pub returns-clause-read : goal.returns-clause-read
returns-clause-read c = chip_read

pub returns-clause-tree : goal.returns-clause-tree
returns-clause-tree c = chip_has_tree
