-- Marks of defects that no pair detects.
use Rattle.std.proofs.Common.{◌≡◌, ℕ, Bool, true, false, List, [], ◌∷◌, ◌++◌, length, inl, inr, sym, ◌∙◌, ap, subst, arith, Some}
use Rattle.std.specs.Prelude.{slice_get}
use Rattle.std.proofs.lemmas.Bool.{cases_lt}
use Rattle.std.proofs.lemmas.List.{get_or_append_left, get_or_push, get_or_past, length_push}
use Rattle.ca_flat.specs.declared.chip_defect.ChipDefect.{ChipDefect}
use Rattle.ca_flat.specs.Chip.{Chip}
use Rattle.ca_flat.specs.Detection.{IsUntestable}
use Rattle.ca_credit.specs.Defects.{Task}
use Rattle.ca_generate.specs.Known.{AreUntestable}
use Rattle.ca_engine.specs.code.Untestable.{AreMarked}

pub none_marked : (chip : Chip) (defects : List ChipDefect) → AreMarked chip defects []
none_marked chip defects place defect at marked = let e : false ≡ true = marked in cc

pub one_more : (chip : Chip) (defects : List ChipDefect) (marks : List Bool) (mark : Bool) (defect : ChipDefect) → slice_get defects (length marks) ≡ Some defect
    → (mark ≡ true → IsUntestable chip defect) → AreMarked chip defects marks → AreMarked chip defects (marks ++ mark ∷ [])
one_more chip defects marks mark defect here is before place other at marked = elim (cases_lt place (length marks)) [
  | inl low ↦ before place other at (sym (get_or_append_left marks (mark ∷ []) false place low) ∙ marked)
  | inr high ↦ elim (cases_lt (length marks) place) [
    | inl past ↦ let e : false ≡ true = sym (get_or_past (marks ++ mark ∷ []) place false (let long = length_push marks mark in omega arith)) ∙ marked in cc
    | inr low ↦
        let e : place ≡ length marks = omega arith in
        let same : Some defect ≡ Some other = sym here ∙ ap (slice_get defects) (sym e) ∙ at in
        let one : defect ≡ other = cc in
        subst (IsUntestable chip) one (is (sym (get_or_push marks mark false place (sym e)) ∙ marked))
  ]
]

-- marks on the list of a task
pub marks_are : (core : Chip) (task : Task) (defects : List ChipDefect) (marks : List Bool) → ((place : ℕ) → core ≡ task.chip_of place) → defects ≡ task.defects → AreMarked core defects marks
    → AreUntestable task marks
marks_are core task defects marks chip_is defects_are are = λ place marked defect at.
    subst (λ x. IsUntestable x defect) (chip_is place) (are place defect (subst (λ list. slice_get list place ≡ Some defect) (sym defects_are) at) marked)
