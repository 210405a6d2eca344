use Rattle.std.proofs.Common.{◌≡◌, ◌≤◌, ◌-◌, length, take, []}
use Rattle.ca_store.specs.Store.{appended}
use Rattle.ca_store.proofs.sink.write_all.Given as goal

abbrev pub decreases-pieces : goal.decreases-pieces
decreases-pieces g l = length l.initial.bytes - l.done

abbrev pub invariant-pieces : goal.invariant-pieces
invariant-pieces g l = record {
  within : l.done ≤ length l.bytes;
  appended : g.W.Sink.bytes l.sink ≡ appended (take l.done l.bytes) (g.W.Sink.bytes l.initial.sink);
  quiet : g.W.Sink.faults l.sink ≡ g.W.Sink.faults l.initial.sink;
  nothing : l.bytes ≡ [] → l.sink ≡ l.initial.sink;
}
