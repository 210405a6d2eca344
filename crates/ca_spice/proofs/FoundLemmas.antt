-- A cell that is found in a library that was read can be read.
use Rattle.std.proofs.Common.{◌≡◌, ℕ, suc, List, Bool, true, false, cond, [], ◌∷◌, map, Some, Ok, refl, sym}
use Rattle.std.proofs.Common.{ap, arith}
use Rattle.std.specs.Prelude.{Contains}
use Rattle.std.specs.Str.{bytes_eq}
use Rattle.std.proofs.lemmas.Slice.Eq.{bytes_eq-Decides}
use Rattle.ca_lex.specs.Words.{upper_case}
use Rattle.ca_cell.specs.declared.strength.StrengthTable.{StrengthTable}
use Rattle.ca_cell.specs.declared.library.Entry.TheVariants.{Sound}
use Rattle.ca_cell.specs.declared.raw.RawCell.{RawCell}
use Rattle.ca_cell.specs.Library.{Named, raw_of, entry_of}
use Rattle.ca_spice.specs.declared.subcircuit.Subcircuit.{Subcircuit}
use Rattle.ca_spice.specs.Reading.{library_of}
use Rattle.ca_spice.specs.Views.{subcircuit_seen}
use Rattle.ca_spice.specs.Writing.{IsReadable}

pub later : (first : Subcircuit) (cells : List Subcircuit) (cell : Subcircuit) → Contains cells cell → Contains (first ∷ cells) cell
later first cells cell has = (suc has.0, omega (arith, has.1), has.2)

found_in : (name : List ℕ) (library : List Named) (raw : RawCell) → entry_of library name ≡ Some (Sound raw)
    → Contains (map subcircuit_seen library) (record { name = name; raw = raw })
found_in name [] raw is = absurd cc
found_in name (named ∷ library) raw is = by (bytes_eq name named.name) refl is (found_in name library raw)
  where
    by : (same : Bool) → bytes_eq name named.name ≡ same → cond same (Some named.entry) (entry_of library name) ≡ Some (Sound raw)
        → (entry_of library name ≡ Some (Sound raw) → Contains (map subcircuit_seen library) (record { name = name; raw = raw }))
        → Contains (map subcircuit_seen (named ∷ library)) (record { name = name; raw = raw })
    by true names is rest =
        let entry : named.entry ≡ Sound raw = cc in
        let same_name : named.name ≡ name = sym ((bytes_eq-Decides name named.name).0 names) in
        let same_raw : raw_of named.entry ≡ raw = ap raw_of entry in
        (0, omega arith, λ j. record { name = same_name j; raw = same_raw j })
    by false names is rest = later (subcircuit_seen named) (map subcircuit_seen library) (record { name = name; raw = raw }) (rest is)

pub found : (table : StrengthTable) → (text name : List ℕ) (library : List Named) (raw : RawCell) → library_of table text ≡ Ok (map subcircuit_seen library)
    → entry_of library (upper_case name) ≡ Some (Sound raw) → IsReadable table name raw
found table text name library raw read is = record {
  text = text;
  cells = map subcircuit_seen library;
  read = read;
  holds = found_in (upper_case name) library raw is;
}
