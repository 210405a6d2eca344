-- Words of the code beside those of `specs/CodeEnd.antt`. Private functions and proofs cite them.
use Rattle.std.specs.Prelude.{Bool, true, false, List, []}
use Rattle.ca_flat.specs.declared.token.Token.{Token}
use Rattle.ca_flat.specs.Codes.{Reading, At, unset_pair, Reads, IsWholeBy, IsFrontBy}
use Rattle.ca_read_code.specs.declared.walk.CodeEnd.{CodeEnd}
use Rattle.ca_read_code.specs.declared.walk.CodeEnd.TheVariants.{Unlawful, Whole, Front}
use Rattle.ca_read_code.specs.Examined.{Examined}
use Rattle.ca_read_code.specs.CodeEnd.{rules_of}

-- where every reading of a code begins
abbrev pub start_of : Examined → Reading
start_of examined = At (unset_pair examined.chip) []

-- no reading of the code, however it ends, has lawful tokens alone
abbrev pub IsUnlawful : Examined → List Token → Type 0
IsUnlawful examined code = (to : Reading) → Reads (rules_of examined) code (start_of examined) to → ⊥

-- the code has an unlawful token, or is a whole one, or a front whose next pair is in hand
abbrev pub IsEnd : Examined → List Token → CodeEnd → Type 0
IsEnd examined code Unlawful = IsUnlawful examined code
IsEnd examined code Whole = IsWholeBy (rules_of examined) examined.chip code
IsEnd examined code Front = IsFrontBy (rules_of examined) examined.chip code examined.pair

-- a tree that ends with the last token is the whole code; no token may come after it
abbrev pub end_by : Bool → CodeEnd
end_by true = Whole
end_by false = Unlawful
