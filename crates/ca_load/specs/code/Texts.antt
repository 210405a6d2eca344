-- Words of the code beside those of `specs/Texts.antt`. Private functions and proofs cite them.
use Rattle.std.specs.Prelude.{◌≡◌, ℕ, List, Option, Some, Ok}
use Rattle.std.specs.Option.{ForSome}
use Rattle.ca_store.specs.Store.{Files}
use Rattle.ca_cell.specs.declared.strength.StrengthTable.{StrengthTable}
use Rattle.ca_strengths.specs.StrengthText.{strengths_of}
use Rattle.ca_load.specs.Texts.{strengths_in, InputFiles, Inputs, ReadAs}

-- the text reads as the strength table
abbrev pub IsTableText : StrengthTable → List ℕ → Type 0
IsTableText table bytes = strengths_of bytes ≡ Ok table

-- the cell netlist is read under this table, where the files are known
abbrev pub IsStrengthsAt : Option Files → Option (List ℕ) → StrengthTable → Type 0
IsStrengthsAt files name table = ForSome files (λ reported. strengths_in name reported ≡ Some table)

-- the files read as these inputs, where they are known
abbrev pub AreRead : Option Files → InputFiles → Inputs → Type 0
AreRead files names inputs = ForSome files (ReadAs names inputs)
