use Rattle.ca_merge.proofs.WiringLemmas.{draft_has_no_loop_lem}
use Rattle.ca_merge.proofs.laws.draft_has_no_loop.Goals as goal

pub returns : goal.returns
returns c = draft_has_no_loop_lem
