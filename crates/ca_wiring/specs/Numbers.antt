-- How nets are numbered: the earliest wires that are used, in order. Only the proofs of the code cite this.
use Rattle.std.specs.Prelude.{ℕ, ◌≡◌, ◌<◌, ◌≤◌, Bool, true, false, List, length, Some, slice_get}
use Rattle.std.specs.Prelude.{slice_index, slice_index_or}
use Rattle.std.specs.List.{AllPairs, Contains}

-- for each wire the earliest that is joined with it, and whether a net that is known by a wire has a driver
-- or a load
pub record WireMarks : Type 0 where
  pub earliest : List ℕ
  pub used : List Bool

-- the nets, each by the earliest of its wires, and the number of each wire's net
pub record NetNumbers : Type 0 where
  pub nets : List ℕ
  pub numbers : List ℕ

-- the earliest wire that is joined with this one
abbrev pub earliest_of : WireMarks → ℕ → ℕ
earliest_of marks w = slice_index marks.earliest w

-- a net that is known by the wire has a driver or a load
abbrev pub IsUsed : WireMarks → ℕ → Type 0
IsUsed marks w = slice_index_or marks.used w false ≡ true

-- a net is known by the wire
pub record IsKnownBy (marks : WireMarks) (w : ℕ) : Type 0 where
  pub own : earliest_of marks w ≡ w
  pub used : IsUsed marks w

-- no earliest wire is later, and it is its own earliest
pub record LeadsToEarliest (marks : WireMarks) : Type 0 where
  pub count : length marks.used ≡ length marks.earliest
  pub no_later : (w : ℕ) → w < length marks.earliest → earliest_of marks w ≤ w
  pub own : (w : ℕ) → w < length marks.earliest → earliest_of marks (earliest_of marks w)
      ≡ earliest_of marks w

-- the nets among the first wires are numbered
pub record AreNumbered (marks : WireMarks) (count : ℕ) (made : NetNumbers) : Type 0 where
  pub room : length made.numbers ≡ count
  pub few : length made.nets ≤ count
  pub ascending : AllPairs (λ a b. a < b) made.nets
  pub known : (k w : ℕ) → slice_get made.nets k ≡ Some w → (w < count) × IsKnownBy marks w
  pub has : (w : ℕ) → w < count → IsKnownBy marks w → Contains made.nets w
  pub numbered : (w : ℕ) → w < count → IsUsed marks (earliest_of marks w)
      → slice_get made.nets (slice_index made.numbers w) ≡ Some (earliest_of marks w)
