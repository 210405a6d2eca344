use Rattle.ca_spice.proofs.LawLemmas.{found, only}
use Rattle.ca_spice.proofs.laws.first_faulty_line.Goals as goal

pub returns : goal.returns
returns c = record { found = found; only = only }
