-- What is said of a library that was read from a file, said of the file.
use Rattle.std.proofs.Common.{ℕ, ◌≡◌, refl, List, Option, Some, None, Result, Ok, Err}
use Rattle.std.specs.Prelude.{IfOk}
use Rattle.ca_store.specs.Store.{Files}
use Rattle.ca_lex.specs.Words.{upper_case}
use Rattle.ca_cell.specs.declared.raw.RawCell.{RawCell}
use Rattle.ca_cell.specs.declared.library.Entry.{Entry}
use Rattle.ca_cell.specs.Library.{Named, entry_of, raw_of}
use Rattle.ca_spice.proofs.CalledLemmas.{called_of_library}
use Rattle.ca_load.specs.Texts.{CellFiles, OfCells, IsLibraryOf}
use Rattle.ca_load.proofs.ReadLemmas.{of_cells_then}
use Rattle.ca_on_cell.specs.Cells.{HasCell, LacksCell, OfCell}

module _ (files : Option Files) (names : CellFiles) (word : List ℕ) (library : List Named)
    (read : OfCells files names (IsLibraryOf library)) where
  -- what holds of an entry's subcircuit holds of the cell in the file
  pub of_entry : (entry : Entry) (Holds : RawCell → Type 0) → entry_of library (upper_case word) ≡ Some entry → Holds (raw_of entry)
      → OfCell files names word Holds
  of_entry entry Holds found holds = of_cells_then files names (IsLibraryOf library) (HasCell word Holds)
      (λ table bytes is. rw (called_of_library table bytes word library is.reads, found) holds) read

  -- the same of an answer
  pub of_entry_answer : {T E : Type 0} (r : Result T E) (entry : Entry) (Holds : T → RawCell → Type 0)
      → entry_of library (upper_case word) ≡ Some entry → IfOk r (λ value. Holds value (raw_of entry))
      → IfOk r (λ value. OfCell files names word (Holds value))
  of_entry_answer (Ok value) entry Holds found holds = of_entry entry (Holds value) found holds
  of_entry_answer (Err error) entry Holds found holds = tt

  -- a name that the library lacks
  pub of_none : entry_of library (upper_case word) ≡ None → OfCells files names (LacksCell word)
  of_none missing = of_cells_then files names (IsLibraryOf library) (LacksCell word)
      (λ table bytes is. (rw is.reads refl, rw (called_of_library table bytes word library is.reads, missing) refl)) read
