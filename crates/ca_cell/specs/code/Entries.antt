-- How a library keeps its entries.
use Rattle.std.specs.Prelude.{ℕ, ◌≡◌, List, map, All}
use Rattle.std.specs.declared.vec.Vec.{Vec}
use Rattle.std.specs.declared.alloc.Global.{Global}
use Rattle.ca_cell.specs.declared.library.Entry.{Entry}
use Rattle.ca_cell.specs.Library.{Named, IsEntry}
use Rattle.ca_lex.specs.Words.{upper_case}

-- the entries with their names
abbrev pub named_entries : List (Vec ℕ Global × Entry) → List Named
named_entries entries = map (λ kept. record { name = kept.0.items; entry = kept.1 }) entries

-- each name is kept in upper case
abbrev pub AllUpperCase : List (Vec ℕ Global × Entry) → Type 0
AllUpperCase entries = All (λ kept. upper_case kept.0.items ≡ kept.0.items) entries

-- each entry is what its subcircuit gives
abbrev pub AllEntries : List (Vec ℕ Global × Entry) → Type 0
AllEntries entries = All (λ kept. IsEntry kept.1) entries
