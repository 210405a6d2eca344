use Rattle.ca_merge.proofs.DraftLemmas.{draft_core_is_merged_lem}
use Rattle.ca_merge.proofs.laws.draft_core_is_merged.Goals as goal

pub returns : goal.returns
returns c = draft_core_is_merged_lem
