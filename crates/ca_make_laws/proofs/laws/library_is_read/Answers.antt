use Rattle.ca_make_laws.proofs.CellLemmas.{library_read}
use Rattle.ca_make_laws.proofs.laws.library_is_read.Goals as goal

pub returns : goal.returns
returns c = library_read
