-- The subcircuit of a name in a text is that of the library's entry.
use Rattle.std.proofs.Common.{ℕ, ◌≡◌, refl, Bool, true, false, if◌then◌else◌, List, [], ◌∷◌, map, Option}
use Rattle.std.proofs.Common.{Some, Ok}
use Rattle.std.specs.Prelude.{option_map}
use Rattle.std.specs.Str.{bytes_eq}
use Rattle.ca_lex.specs.Words.{upper_case}
use Rattle.ca_cell.specs.declared.strength.StrengthTable.{StrengthTable}
use Rattle.ca_cell.specs.declared.raw.RawCell.{RawCell}
use Rattle.ca_cell.specs.declared.library.Entry.{Entry}
use Rattle.ca_cell.specs.Library.{Named, entry_of, raw_of}
use Rattle.ca_spice.specs.Reading.{library_of}
use Rattle.ca_spice.specs.Views.{subcircuit_seen}
use Rattle.ca_spice.specs.Called.{called_among, cell_called}

chosen : (same : Bool) (entry : Entry) (more : Option RawCell) (rest : Option Entry) → more ≡ option_map raw_of rest
    → (if same then Some (raw_of entry) else more) ≡ option_map raw_of (if same then Some entry else rest)
chosen true entry more rest held = refl
chosen false entry more rest held = held

pub called_in_library : (library : List Named) (name : List ℕ)
    → called_among (map subcircuit_seen library) name ≡ option_map raw_of (entry_of library name)
called_in_library [] name = refl
called_in_library (named ∷ more) name =
    chosen (bytes_eq name named.name) named.entry (called_among (map subcircuit_seen more) name) (entry_of more name) (called_in_library more name)

-- what a word names in a text that reads as a library's subcircuits
pub called_of_library : (table : StrengthTable) → (bytes word : List ℕ) (library : List Named) → library_of table bytes ≡ Ok (map subcircuit_seen library)
    → cell_called table bytes word ≡ option_map raw_of (entry_of library (upper_case word))
called_of_library table bytes word library reads = rw (cell_called, reads) (called_in_library library (upper_case word))
