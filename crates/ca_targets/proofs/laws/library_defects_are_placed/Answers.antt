use Rattle.ca_targets.proofs.LawLemmas.{library_defects_are_placed_lem}
use Rattle.ca_targets.proofs.laws.library_defects_are_placed.Goals as goal

pub returns : goal.returns
returns c = library_defects_are_placed_lem
