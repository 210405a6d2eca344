-- What is kept of a search that has ended.
use Rattle.std.specs.Prelude.{◌≡◌, List}
use Rattle.ca_net.specs.declared.trit.Trit.{Trit}
use Rattle.ca_flat.specs.declared.token.Token.{Token}
use Rattle.ca_code.specs.Filled.{filled}
use Rattle.ca_search.specs.declared.trail.Outcome.{Outcome}
use Rattle.ca_search.specs.declared.trail.Outcome.TheVariants.{Found, Exhausted, Spent}
use Rattle.ca_generate.specs.declared.search_end.SearchEnd.{SearchEnd}
use Rattle.ca_generate.specs.declared.search_end.SearchEnd.TheVariants as end

-- of a search that has ended at this partial pair, with this code, the pair that it gives or the code
abbrev pub IsKept : List Trit → List Token → Outcome → SearchEnd → Type 0
IsKept partial code Found (end.Found pair) = pair ≡ filled partial
IsKept partial code Found end.Exhausted = ⊥
IsKept partial code Found (end.Spent kept) = ⊥
IsKept partial code Exhausted (end.Found pair) = ⊥
IsKept partial code Exhausted end.Exhausted = Unit {0}
IsKept partial code Exhausted (end.Spent kept) = ⊥
IsKept partial code Spent (end.Found pair) = ⊥
IsKept partial code Spent end.Exhausted = ⊥
IsKept partial code Spent (end.Spent kept) = kept ≡ code
