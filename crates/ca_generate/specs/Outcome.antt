-- How a search ends.
use Rattle.std.specs.Prelude.{ℕ, List}
use Rattle.ca_flat.specs.declared.chip_defect.ChipDefect.{ChipDefect}
use Rattle.ca_flat.specs.declared.token.Token.{Token}
use Rattle.ca_flat.specs.Chip.{Chip}
use Rattle.ca_flat.specs.Codes.{IsWholeCode}
use Rattle.ca_code.specs.Ends.{IsSpentSearch}
use Rattle.ca_credit.specs.Listed.{IsFoundFor}
use Rattle.ca_generate.specs.declared.search_end.SearchEnd.{SearchEnd}
use Rattle.ca_generate.specs.declared.search_end.SearchEnd.TheVariants as end

-- A search for the chip's defect, with no more branches than the budget, has ended so: it has found the pair,
-- some whole code shows that there is none, or the code is spent.
abbrev pub IsSearchEnd : Chip → ℕ → ChipDefect → SearchEnd → Type 0
IsSearchEnd chip budget defect (end.Found pair) = IsFoundFor chip budget defect pair
IsSearchEnd chip budget defect end.Exhausted = (code : List Token) × IsWholeCode chip defect code
IsSearchEnd chip budget defect (end.Spent code) = IsSpentSearch chip budget defect code
