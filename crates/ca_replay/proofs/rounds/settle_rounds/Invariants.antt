use Rattle.std.proofs.Common.{◌≡◌, ◌-◌, List, length}
use Rattle.ca_net.specs.declared.trit.Trit.{Trit}
use Rattle.ca_net.specs.Event.{Run}
use Rattle.ca_replay.specs.Replay.{rounds, long_phase}
use Rattle.ca_replay.proofs.rounds.settle_rounds.Given as goal

abbrev pub invariant-loop-round : goal.invariant-loop-round
invariant-loop-round g l = record {
  at : length l.at ≡ length l.fn.at;
  next : length l.next ≡ length l.fn.next;
  scratch : l.scratch ≡ l.fn.scratch;
  run : (t : List Trit) → Run (g.N.Network.circuit l.net) l.at (rounds (g.N.Network.circuit l.net) (length (g.N.Network.circuit l.net).nodes - l.round)) t
      → Run (g.N.Network.circuit l.net) l.fn.at (long_phase (g.N.Network.circuit l.net)) t;
}
