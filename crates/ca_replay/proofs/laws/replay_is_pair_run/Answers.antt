use Rattle.ca_replay.proofs.PairLemmas.{replay_is_pair_run_lem}
use Rattle.ca_replay.proofs.laws.replay_is_pair_run.Goals as goal

pub returns : goal.returns
returns c = replay_is_pair_run_lem
