use Rattle.ca_view.proofs.RankLemmas.{AreFirstRanks}
use Rattle.ca_view.proofs.places.ranks_of.Given as goal

abbrev pub invariant-loop-k : goal.invariant-loop-k
invariant-loop-k l = AreFirstRanks l.chip l.k l.ranks.items
