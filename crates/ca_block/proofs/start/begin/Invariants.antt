use Rattle.std.proofs.Common.{ℕ, length}
use Rattle.ca_planes.specs.Trits.{HasNodes, state_in}
use Rattle.ca_block.proofs.StateLemmas.{BegunTo}
use Rattle.ca_block.proofs.start.begin.Given as goal

abbrev pub invariant-loop-n : goal.invariant-loop-n
invariant-loop-n g l = record {
  room : HasNodes (length (g.N.Network.circuit l.net).nodes) l.at;
  begun : (lane : ℕ) → BegunTo (g.N.Network.circuit l.net) (state_in l.vector lane) (state_in l.held lane) l.n (state_in l.at lane);
}
