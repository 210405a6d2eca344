-- Libraries of cells by name.
use Rattle.std.specs.Prelude.{ℕ, ◌+◌, ◌≡◌, ◌≤◌, List, [], ◌∷◌, ◌++◌, length, Option, Some, None, IsSome}
use Rattle.std.specs.Prelude.{IsNone}
use Rattle.std.specs.Prelude.{IsSomeAnd, slice_get, if◌then◌else◌}
use Rattle.std.specs.Str.{bytes_eq}
use Rattle.ca_lex.specs.Words.{upper_case}
use Rattle.ca_cell.specs.declared.library.Entry.{Entry}
use Rattle.ca_cell.specs.declared.library.Entry.TheVariants.{Sound, Refused}
use Rattle.ca_cell.specs.declared.library.LibraryFault.{LibraryFault}
use Rattle.ca_cell.specs.declared.library.LibraryFault.TheVariants.{DoubleName, TooManyCells, NoMemory}
use Rattle.ca_cell.specs.declared.library.TheConstants.{MOST_CELLS}
use Rattle.ca_cell.specs.declared.raw.RawCell.{RawCell}
use Rattle.ca_cell.specs.Rules.{IsRaw, KeepsRules, IsFirstBroken}

-- the subcircuit of an entry
abbrev pub raw_of : Entry → RawCell
raw_of (Sound raw) = raw
raw_of (Refused raw rule) = raw

-- an entry is a cell where its subcircuit keeps the rules, and else the subcircuit with the first rule that
-- it breaks
abbrev pub IsEntry : Entry → Type 0
IsEntry (Sound raw) = IsRaw raw × KeepsRules raw
IsEntry (Refused raw rule) = IsRaw raw × IsFirstBroken raw rule

-- what a library is seen as: its entries with their names, in the order in which they were added
pub record Named : Type 0 where
  pub name : List ℕ
  pub entry : Entry

-- the entry of a kept name
abbrev pub entry_of : List Named → List ℕ → Option Entry
entry_of [] name = None
entry_of (named ∷ more) name = if bytes_eq name named.name then Some named.entry else entry_of more name

-- the entry at the place is that of the kept name
abbrev pub IsPlaceOf : List Named → List ℕ → ℕ → Type 0
IsPlaceOf library name place = IsSomeAnd (slice_get library place)
    (λ named. entry_of library name ≡ Some named.entry)

-- the library with one more entry, which is a cell, under a name that none of the others has
pub record HasOneMore (old : List Named) (raw : RawCell) (new : List Named) : Type 0 where
  pub name : List ℕ
  pub fresh : IsNone (entry_of old name)
  pub is : new ≡ old ++ record { name = name; entry = Sound raw } ∷ []

-- why an entry wasn't added: its name is there; or it isn't, and the library has the most cells that are
-- added by name, or more, with one more than it has; or there was no memory
abbrev pub IsCause : List Named → List ℕ → LibraryFault → Type 0
IsCause library name DoubleName = IsSome (entry_of library (upper_case name))
IsCause library name (TooManyCells count) =
    IsNone (entry_of library (upper_case name)) × (MOST_CELLS ≤ length library)
    × (count ≡ length library + 1)
IsCause library name NoMemory = Unit {0}
