-- The spans of a list, found place by place.
use Rattle.std.proofs.Common.{◌≡◌, ℕ, zero, suc, ◌+◌, ◌<◌, List, [], ◌∷◌, ◌++◌, length, get_or, arith, refl, sym, ap, ◌∙◌, subst, inl, inr, Some, true}
use Rattle.std.specs.Prelude.{slice_get}
use Rattle.std.proofs.lemmas.Bool.{cases_lt, cases_eq}
use Rattle.std.proofs.lemmas.List.{get_or_append_left, length-append}
use Rattle.std.proofs.Math.Seq.{get_or-append_seam}
use Rattle.std.proofs.lemmas.Option.{slice_get-get_or, same_Some}
use Rattle.ca_cell.specs.declared.raw.RawCell.{RawCell}
use Rattle.ca_cell.specs.declared.defect.Defect.{Defect}
use Rattle.ca_flat.specs.declared.chip_defect.ChipDefect.{ChipDefect}
use Rattle.ca_sweep.specs.code.Rows.{IsListOf}
use Rattle.ca_sweep.specs.declared.spans.Span.{Span}
use Rattle.ca_flat.specs.Chip.{Chip, cell_at}
use Rattle.ca_sweep.specs.Spans.{AreOfInstance, AreOfCell}
use Rattle.ca_sweep.specs.code.Spans.{no_span, span_at, start_of, AreAlikeNext, AreListed, AreSpansTo}

-- what is appended changes no span before it, and not where the next one begins
module _ (spans : List Span) (last : Span) where
  kept_span : (number : ℕ) → number < length spans → span_at (spans ++ last ∷ []) number ≡ span_at spans number
  kept_span number below = get_or_append_left spans (last ∷ []) no_span number below

  kept_start : (number : ℕ) → number < length spans + 1 → start_of (spans ++ last ∷ []) number ≡ start_of spans number
  kept_start zero below = refl
  kept_start (suc number) below = ap (λ (span : Span). span.end) (kept_span number (omega arith))

  new_span : span_at (spans ++ last ∷ []) (length spans) ≡ last
  new_span = get_or-append_seam spans last [] no_span

  new_start : start_of (spans ++ last ∷ []) (length spans + 1) ≡ last.end
  new_start = ap (λ number. start_of (spans ++ last ∷ []) number) (suc_is (length spans)) ∙ ap (λ (span : Span). span.end) new_span
    where
      suc_is : (n : ℕ) → n + 1 ≡ suc n
      suc_is n = omega arith

  -- what each span has and the new one too
  at_each : (P : ℕ → Span → Type 0) → ((number : ℕ) → number < length spans → P (start_of spans number) (span_at spans number))
      → P (start_of spans (length spans)) last → (number : ℕ) → number < length spans + 1 → P (start_of (spans ++ last ∷ []) number) (span_at (spans ++ last ∷ []) number)
  at_each P each new number below = elim (cases_lt number (length spans)) [
    | inl low ↦ subst (λ start. P start (span_at (spans ++ last ∷ []) number)) (sym (kept_start number below))
        (subst (P (start_of spans number)) (sym (kept_span number low)) (each number low))
    | inr high ↦
        let here : number ≡ length spans = omega arith in
        subst (λ n. P (start_of (spans ++ last ∷ []) n) (span_at (spans ++ last ∷ []) n)) (sym here)
        (subst (λ start. P start (span_at (spans ++ last ∷ []) (length spans))) (sym (kept_start (length spans) (omega arith)))
        (subst (P (start_of spans (length spans))) (sym new_span) new))
  ]

-- a span ends at this place
module _ (chip : Chip) (defects : List ChipDefect) (spans : List Span) (place : ℕ) (one : ChipDefect) (last : Span)
    (so_far : AreSpansTo chip defects spans place) (within : place < length defects) (at : slice_get defects place ≡ Some one) (end_is : last.end ≡ place + 1)
    (instance_is : last.instance ≡ one.instance)
    (whole_is : last.is_whole ≡ true → AreOfCell (cell_at chip last.instance) defects (start_of spans (length spans)) (place + 1)) where
  here_of : AreOfInstance defects (start_of spans (length spans)) last.end last.instance
  here_of =
      subst (λ end. AreOfInstance defects (start_of spans (length spans)) end last.instance) (sym end_is)
      (subst (AreOfInstance defects (start_of spans (length spans)) (place + 1)) (sym instance_is) (record {
        within = omega arith;
        each = λ k defect after before is. elim (cases_eq k place) [
          | inl e ↦ ap (λ (d : ChipDefect). d.instance) (same_Some defect one (sym is ∙ ap (slice_get defects) e ∙ at))
          | inr apart ↦ so_far.open_span k defect one after (omega arith) is at
        ];
      }))

  pub span_ends : AreSpansTo chip defects (spans ++ last ∷ []) (place + 1)
  span_ends =
      let count : length (spans ++ last ∷ []) ≡ length spans + 1 = length-append spans (last ∷ []) in
      let start : start_of (spans ++ last ∷ []) (length (spans ++ last ∷ [])) ≡ place + 1 =
      ap (start_of (spans ++ last ∷ [])) count ∙ new_start spans last ∙ end_is in
      record {
        each = λ number below. at_each spans last (λ start span. AreOfInstance defects start span.end span.instance) so_far.each here_of number (omega arith);
        whole = λ number below. at_each spans last (λ start span. span.is_whole ≡ true → AreOfCell (cell_at chip span.instance) defects start span.end)
            so_far.whole (λ is. subst (AreOfCell (cell_at chip last.instance) defects (start_of spans (length spans))) (sym end_is) (whole_is is))
            number (omega arith);
        before = omega arith;
        open_span = λ k first other after before is_first is_other. absurd (omega arith);
        last = λ done. start;
      }

-- the next place is in the same span
pub span_goes_on : (chip : Chip) (defects : List ChipDefect) (spans : List Span) (place : ℕ) → AreSpansTo chip defects spans place
    → place + 1 < length defects → AreAlikeNext defects place → AreSpansTo chip defects spans (place + 1)
span_goes_on chip defects spans place so_far more alike = record {
  each = so_far.each;
  whole = so_far.whole;
  before = let b = so_far.before in omega arith;
  open_span = λ k one other after before is_one is_other. elim (cases_eq k place) [
    | inl e ↦ alike one other (sym (ap (slice_get defects) e) ∙ is_one) is_other
    | inr apart ↦
        let at = slice_get-get_or defects place one (omega arith) in
        so_far.open_span k one (get_or defects place one) after (omega arith) is_one at ∙ alike (get_or defects place one) other at is_other
  ];
  last = λ done. absurd (omega arith);
}

-- what is listed is of the cell
pub listed_of_cell : (raw : RawCell) (cell : List Defect) (defects : List ChipDefect) (from end : ℕ) → IsListOf raw cell → AreListed cell defects from end
    → AreOfCell raw defects from end
listed_of_cell raw cell defects from end is listed = λ k defect before at. ap (λ list. slice_get list k) (sym is.is) ∙ listed k defect before at
