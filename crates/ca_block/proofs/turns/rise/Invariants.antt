use Rattle.std.proofs.Common.{◌<◌, ℕ, length}
use Rattle.ca_net.specs.Response.{AreResponses}
use Rattle.ca_planes.specs.Trits.{HasNodes, state_in}
use Rattle.ca_levels.specs.Levels.{HoldsNetwork}
use Rattle.ca_settle.proofs.TurnLemmas.{Rises}
use Rattle.ca_block.specs.Work.{HasTouchedRoom}
use Rattle.ca_block.proofs.MeasureLemmas.{total, unknowns}
use Rattle.ca_block.proofs.turns.rise.Given as goal

abbrev pub invariant-rising : goal.invariant-rising
invariant-rising g l = record {
  at : HasNodes (length (g.N.Network.circuit l.net).nodes) l.at;
  next : HasNodes (length (g.N.Network.circuit l.net).nodes) l.next;
  spare : HasNodes (length (g.N.Network.circuit l.net).nodes) l.spare;
  touched : HasTouchedRoom (length (g.N.Network.circuit l.net).nodes) (length (g.N.Network.circuit l.net).devices) l.touched;
  levels : HoldsNetwork (g.N.Network.circuit l.net) l.levels;
  rises : (lane : ℕ) → lane < 64 → Rises (g.N.Network.circuit l.net) (state_in l.fn.at lane) (state_in l.at lane);
  responses : (lane : ℕ) → lane < 64 → AreResponses (g.N.Network.circuit l.net) (state_in l.at lane) (state_in l.next lane);
}

-- how many values are X in all lanes
abbrev pub decreases-rising : goal.decreases-rising
decreases-rising g l = total (λ lane. unknowns (state_in l.at lane)) 64
