use Rattle.ca_merge.proofs.WiringLemmas.{draft_is_wired_lem}
use Rattle.ca_merge.proofs.laws.draft_is_wired.Goals as goal

pub returns : goal.returns
returns c = draft_is_wired_lem
