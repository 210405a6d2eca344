use Rattle.std.proofs.Common.{◌≡◌, List, length, map, drop}
use Rattle.ca_net.specs.declared.trit.Trit.{Trit}
use Rattle.ca_net.specs.Event.{Run}
use Rattle.ca_order.specs.Allowed.{meaning}
use Rattle.ca_replay.proofs.events.carry_out.Given as goal

abbrev pub invariant-loop-event : goal.invariant-loop-event
invariant-loop-event g l = record {
  at : length l.at ≡ length l.fn.at;
  next : length l.next ≡ length l.fn.next;
  scratch : l.scratch ≡ l.fn.scratch;
  run : (t : List Trit) → Run (g.N.Network.circuit l.net) l.at (map meaning (drop l.event-index l.events)) t
      → Run (g.N.Network.circuit l.net) l.fn.at (map meaning l.events) t;
}
