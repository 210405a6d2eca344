-- The core of a linked chip can be judged.
use Rattle.std.proofs.Common.{◌≡◌, ℕ, List, Option, None, Some, sym, ◌∙◌, ap, subst, arith}
use Rattle.ca_flat.specs.declared.chip_defect.ChipDefect.{ChipDefect}
use Rattle.ca_flat.specs.Chip.{Chip}
use Rattle.ca_linked.specs.Linked.{IsWired}
use Rattle.ca_view.specs.Core.{core_of}
use Rattle.ca_flatten.specs.Few.{IsFew}
use Rattle.ca_flatten.specs.Laws.{FlatIsWellFormed}
use Rattle.ca_judge.specs.ChipJudge.{CanBeJudged}
use Rattle.ca_credit.specs.Defects.{Task}
use Rattle.ca_view.specs.View.{Viewed, IsViewOf}

-- its flat networks are networks where they are small enough
pub core_can_be_judged : (view : Viewed) → IsWired view.chip → FlatIsWellFormed
    → ((given : Option ChipDefect) → IsFew (core_of view.chip) given) → IsViewOf view.chip view → CanBeJudged view.core
core_can_be_judged view wired law few are = subst CanBeJudged (sym are.core_is) (record {
  few = let few_bits = are.few in omega (arith, few_bits);
  good_is = law view.chip None wired tt (few None);
  faulty_are = λ defect one. law view.chip (Some defect) wired one (few (Some defect));
})

-- tasks of the same chips, defects and budget are one
pub task_ext : (one other : Task) → one.chip ≡ other.chip → one.chip_of ≡ other.chip_of → one.defects ≡ other.defects → one.budget ≡ other.budget
    → one ≡ other
task_ext one other chip chip_of defects budget =
    ap (λ (c : Chip). let made : Task = record { chip = c; chip_of = one.chip_of; defects = one.defects; budget = one.budget } in made) chip
    ∙ ap (λ (of : ℕ → Chip). let made : Task = record { chip = other.chip; chip_of = of; defects = one.defects; budget = one.budget } in made) chip_of
    ∙ ap (λ (l : List ChipDefect). let made : Task = record { chip = other.chip; chip_of = other.chip_of; defects = l; budget = one.budget } in made) defects
    ∙ ap (λ (n : ℕ). let made : Task = record { chip = other.chip; chip_of = other.chip_of; defects = other.defects; budget = n } in made) budget
