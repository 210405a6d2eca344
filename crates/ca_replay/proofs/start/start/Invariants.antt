use Rattle.ca_replay.proofs.StartLemmas.{HasBegun}
use Rattle.ca_replay.proofs.start.start.Given as goal

abbrev pub invariant-loop-n : goal.invariant-loop-n
invariant-loop-n g l = HasBegun (g.N.Network.circuit l.net) l.vector l.n l.at
