use Rattle.ca_replay.proofs.UniqueLemmas.{replay_is_unique_lem}
use Rattle.ca_replay.proofs.laws.replay_is_unique.Goals as goal

pub returns : goal.returns
returns c = replay_is_unique_lem
