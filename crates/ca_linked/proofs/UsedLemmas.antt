-- The cell of each library instance is among those that are used.
use Rattle.std.proofs.Common.{◌≡◌, ℕ, zero, suc, Bool, true, false, List, [], ◌∷◌, ◌++◌, cond, refl, sym, ap, subst, ◌∙◌}
use Rattle.std.proofs.Common.{◌||◌, eqb}
use Rattle.std.specs.Prelude.{Some, slice_get}
use Rattle.std.proofs.lemmas.Bool.{eq-eqb}
use Rattle.ca_linked.specs.Linked.{Body, Gate, Scan, Part, LinkedChip, has}
use Rattle.ca_linked.specs.Cells.{with_cell, used_from, used_cells}
use Rattle.ca_linked.proofs.PartLemmas.{has_contains}
use Rattle.ca_linked.proofs.OrderLemmas.{place_of}

has_more : (places more : List ℕ) (cell : ℕ) → has places cell ≡ true → has (places ++ more) cell ≡ true
has_more [] more cell there = absurd cc
has_more (place ∷ places) more cell there = by (eqb cell place) there (has_more places more cell)
  where
    by : (b : Bool) → (b || has places cell) ≡ true
        → (has places cell ≡ true → has (places ++ more) cell ≡ true) → (b || has (places ++ more) cell) ≡ true
    by true there later = refl
    by false there later = later there

has_last : (places : List ℕ) (cell : ℕ) → has (places ++ cell ∷ []) cell ≡ true
has_last [] cell = by (eqb cell cell) (eq-eqb cell cell refl)
  where
    by : (b : Bool) → b ≡ true → (b || false) ≡ true
    by true is = refl
    by false is = absurd cc
has_last (place ∷ places) cell = by (eqb cell place) (has_last places cell)
  where
    by : (b : Bool) → has (places ++ cell ∷ []) cell ≡ true → (b || has (places ++ cell ∷ []) cell) ≡ true
    by true later = refl
    by false later = later

-- what was used stays so
kept : (places : List ℕ) (body : Body) (cell : ℕ) → has places cell ≡ true → has (with_cell places body) cell ≡ true
kept places (Gate other inputs outputs) cell there = by (has places other)
  where
    by : (known : Bool) → has (cond known places (places ++ other ∷ [])) cell ≡ true
    by true = there
    by false = has_more places (other ∷ []) cell there
kept places (Scan nets) cell there = there

-- an instance's own cell is used
own : (places : List ℕ) (cell : ℕ) (inputs outputs : List ℕ) → has (with_cell places (Gate cell inputs outputs)) cell ≡ true
own places cell inputs outputs = by (has places cell) refl
  where
    by : (known : Bool) → has places cell ≡ known → has (cond known places (places ++ cell ∷ [])) cell ≡ true
    by true is = is
    by false is = has_last places cell

kept_from : (places : List ℕ) (parts : List Part) (cell : ℕ) → has places cell ≡ true → has (used_from places parts) cell ≡ true
kept_from places [] cell there = there
kept_from places (part ∷ more) cell there = kept_from (with_cell places part.body) more cell (kept places part.body cell there)

used_at : (places : List ℕ) (parts : List Part) (u : ℕ) (part : Part) (cell : ℕ) (inputs outputs : List ℕ)
    → slice_get parts u ≡ Some part → part.body ≡ Gate cell inputs outputs → has (used_from places parts) cell ≡ true
used_at places [] u part cell inputs outputs at body = absurd cc
used_at places (first ∷ more) zero part cell inputs outputs at body =
    let same : first ≡ part = cc in
    kept_from (with_cell places first.body) more cell
    (subst (λ (b : Body). has (with_cell places b) cell ≡ true) (sym (ap (λ (p : Part). p.body) same ∙ body)) (own places cell inputs outputs))
used_at places (first ∷ more) (suc u) part cell inputs outputs at body =
    used_at (with_cell places first.body) more u part cell inputs outputs at body

-- so each cell of an instance of a chip has a number
pub cell_is_used : (chip : LinkedChip) (u : ℕ) (part : Part) (cell : ℕ) (inputs outputs : List ℕ) → slice_get chip.parts u ≡ Some part
    → part.body ≡ Gate cell inputs outputs → has (used_cells chip) cell ≡ true
cell_is_used chip u part cell inputs outputs at body = used_at [] chip.parts u part cell inputs outputs at body

-- a place that the list has is somewhere in it
pub has_place : (places : List ℕ) (cell : ℕ) → has places cell ≡ true → (k : ℕ) × (slice_get places k ≡ Some cell)
has_place places cell there =
    let found = has_contains places cell there in (found.0, place_of places cell found)
