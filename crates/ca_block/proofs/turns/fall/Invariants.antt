use Rattle.std.proofs.Common.{◌<◌, ℕ, length}
use Rattle.ca_net.proofs.StateLemmas.{definites}
use Rattle.ca_net.specs.Response.{AreResponses}
use Rattle.ca_planes.specs.Trits.{HasNodes, state_in}
use Rattle.ca_levels.specs.Levels.{HoldsNetwork}
use Rattle.ca_settle.specs.code.Turns.{AreBlurred}
use Rattle.ca_settle.proofs.TurnLemmas.{Falls}
use Rattle.ca_block.specs.Work.{HasTouchedRoom}
use Rattle.ca_block.proofs.MeasureLemmas.{total}
use Rattle.ca_block.proofs.turns.fall.Given as goal

abbrev pub invariant-falling : goal.invariant-falling
invariant-falling g l = record {
  at : HasNodes (length (g.N.Network.circuit l.net).nodes) l.at;
  next : HasNodes (length (g.N.Network.circuit l.net).nodes) l.next;
  known : HasNodes (length (g.N.Network.circuit l.net).nodes) l.known;
  spare : HasNodes (length (g.N.Network.circuit l.net).nodes) l.spare;
  touched : HasTouchedRoom (length (g.N.Network.circuit l.net).nodes) (length (g.N.Network.circuit l.net).devices) l.touched;
  levels : HoldsNetwork (g.N.Network.circuit l.net) l.levels;
  falls : (lane : ℕ) → lane < 64 → Falls (g.N.Network.circuit l.net) (state_in l.fn.at lane) (state_in l.at lane);
  responses : (lane : ℕ) → lane < 64 → AreResponses (g.N.Network.circuit l.net) (state_in l.at lane) (state_in l.known lane);
  blurred : (lane : ℕ) → lane < 64 → AreBlurred (g.N.Network.circuit l.net) (state_in l.at lane) (state_in l.next lane);
}

-- how many values are 0 or 1 in all lanes
abbrev pub decreases-falling : goal.decreases-falling
decreases-falling g l = total (λ lane. definites (state_in l.at lane)) 64
