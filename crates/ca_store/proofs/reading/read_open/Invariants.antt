use Rattle.std.proofs.Common.{◌≡◌, ◌≤◌, ◌+◌, ◌-◌, length}
use Rattle.ca_store.specs.Store.{IsReading}
use Rattle.ca_store.specs.code.Reading.{IsReadSoFar}
use Rattle.ca_store.proofs.reading.read_open.Given as goal

abbrev pub decreases-chunks : goal.decreases-chunks
decreases-chunks g l = l.limit + 1 - length l.text

abbrev pub invariant-chunks : goal.invariant-chunks
invariant-chunks g l = record {
  within : length l.text ≤ l.limit + 1;
  in_reading : IsReading (g.S.Store.opened l.store);
  files : g.S.Store.files l.store ≡ g.S.Store.files l.initial.store;
  quiet : g.S.Store.faults l.store ≡ g.S.Store.faults l.initial.store;
  so_far : IsReadSoFar (g.S.Store.files l.initial.store) (g.S.Store.opened l.initial.store)
      (g.S.Store.opened l.store) l.text;
}
