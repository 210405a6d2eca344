use Rattle.ca_chip_report.proofs.LawLemmas.{ranked_library}
use Rattle.ca_chip_report.proofs.laws.ranked_is_library.Goals as goal

pub returns : goal.returns
returns c = ranked_library
