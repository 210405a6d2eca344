use Rattle.std.proofs.Common.{◌≡◌, ◌≤◌, ◌-◌, length, take, Some}
use Rattle.ca_store.specs.Store.{Files, IsWriting, Writing}
use Rattle.ca_store.specs.Writing.{ChangesOnly}
use Rattle.ca_store.proofs.writing.write_file.Given as goal

abbrev pub decreases-pieces : goal.decreases-pieces
decreases-pieces g l = length l.initial.bytes - l.done

abbrev pub invariant-pieces : goal.invariant-pieces
invariant-pieces g l = record {
  within : l.done ≤ length l.bytes;
  in_writing : IsWriting (g.S.Store.opened l.store);
  quiet : g.S.Store.faults l.store ≡ g.S.Store.faults l.initial.store;
  named : (reported : Files) → g.S.Store.files l.fn.store ≡ Some reported → g.S.Store.opened l.store ≡ Writing l.name;
  written : ChangesOnly (g.S.Store.files l.fn.store) (g.S.Store.files l.store) l.name (Some (take l.done l.bytes));
}
