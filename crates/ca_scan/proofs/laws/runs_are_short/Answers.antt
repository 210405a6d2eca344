use Rattle.ca_scan.proofs.ChainLemmas.{run_length}
use Rattle.ca_scan.proofs.laws.runs_are_short.Goals as goal

pub returns : goal.returns
returns c = run_length
