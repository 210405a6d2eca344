use Rattle.std.proofs.Common.{◌≡◌, ◌≤◌, length, drop, None}
use Rattle.ca_store.specs.Memory.{files_of}
use Rattle.ca_store.proofs.shelf.Shelf.find.Given as goal

abbrev pub decreases-loop-place : goal.decreases-loop-place
decreases-loop-place l = l.place

abbrev pub invariant-loop-place : goal.invariant-loop-place
invariant-loop-place l = record {
  within : l.place ≤ length l.self.files;
  none : files_of (drop l.place l.self.files) l.name ≡ None;
}
