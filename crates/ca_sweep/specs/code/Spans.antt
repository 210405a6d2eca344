-- What only proofs of code cite: the spans of a list of defects.
use Rattle.std.specs.Prelude.{ℕ, zero, suc, ◌+◌, ◌≡◌, ◌<◌, ◌≤◌, true, false, List}
use Rattle.std.specs.Prelude.{length, slice_get, slice_index_or, Some}
use Rattle.ca_flat.specs.declared.chip_defect.ChipDefect.{ChipDefect}
use Rattle.ca_sweep.specs.declared.spans.Span.{Span}
use Rattle.ca_cell.specs.declared.defect.Defect.{Defect}
use Rattle.ca_flat.specs.Chip.{Chip, cell_at}
use Rattle.ca_sweep.specs.Spans.{AreOfInstance, AreOfCell}

-- no span
abbrev pub no_span : Span
no_span = record { instance = 0; end = 0; is_whole = false }

-- the span of this number
abbrev pub span_at : List Span → ℕ → Span
span_at spans number = slice_index_or spans number no_span

-- where the span of this number begins: at the end of the one before
abbrev pub start_of : List Span → ℕ → ℕ
start_of spans zero = 0
start_of spans (suc number) = (span_at spans number).end

-- the defects of each span are of its instance
abbrev pub AreEachSpan : List ChipDefect → List Span → Type 0
AreEachSpan defects spans = (number : ℕ) → number < length spans
    → AreOfInstance defects (start_of spans number) (span_at spans number).end (span_at spans number).instance

-- the defects from a place to an end are the first ones of this list, in their order
abbrev pub AreListed : List Defect → List ChipDefect → ℕ → ℕ → Type 0
AreListed cell defects from end = (k : ℕ) (defect : ChipDefect) → from + k < end
    → slice_get defects (from + k) ≡ Some defect → slice_get cell k ≡ Some defect.defect

-- those of each span that is whole are the first ones of its instance's cell
abbrev pub AreEachWhole : Chip → List ChipDefect → List Span → Type 0
AreEachWhole chip defects spans = (number : ℕ) → number < length spans
    → (span_at spans number).is_whole ≡ true
    → AreOfCell (cell_at chip (span_at spans number).instance) defects (start_of spans number)
    (span_at spans number).end

-- so they are, and the spans end with the list
pub record AreSpans (chip : Chip) (defects : List ChipDefect) (spans : List Span) : Type 0 where
  pub each : AreEachSpan defects spans
  pub whole : AreEachWhole chip defects spans
  pub last : start_of spans (length spans) ≡ length defects

-- the defect at the next place is of the same instance
abbrev pub AreAlikeNext : List ChipDefect → ℕ → Type 0
AreAlikeNext defects place = (one other : ChipDefect) → slice_get defects place ≡ Some one
    → slice_get defects (place + 1) ≡ Some other → one.instance ≡ other.instance

-- so far these are spans, and the defects after the last one up to a place are of the instance of that there
pub record AreSpansTo (chip : Chip) (defects : List ChipDefect) (spans : List Span) (place : ℕ) : Type 0 where
  pub each : AreEachSpan defects spans
  pub whole : AreEachWhole chip defects spans
  pub before : start_of spans (length spans) ≤ place
  pub open_span : (k : ℕ) (one other : ChipDefect) → start_of spans (length spans) ≤ k → k < place
      → slice_get defects k ≡ Some one → slice_get defects place ≡ Some other → one.instance ≡ other.instance
  pub last : place ≡ length defects → start_of spans (length spans) ≡ place
