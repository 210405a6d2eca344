use Rattle.std.proofs.Common.{◌≡◌, length, take}
use Rattle.ca_store.specs.code.Arena.{files_in, IsLaid}
use Rattle.ca_store.proofs.shelf.Shelf.holding.Given as goal

abbrev pub invariant-loop-file : goal.invariant-loop-file
invariant-loop-file l = record {
  held : files_in l.bytes.items l.spans.items ≡ take l.file-index l.files;
  laid : IsLaid (length l.bytes.items) l.spans.items;
}
