-- Words of the code beside those of `specs/Stages.antt`. Private functions and proofs cite them.
use Rattle.std.specs.Prelude.{◌≡◌, ◌⊎◌, ℕ, List, ⊤}
use Rattle.ca_cell.specs.declared.raw.RawCell.{RawCell}
use Rattle.ca_cell.specs.Rules.{KeepsRules}
use Rattle.ca_fault.specs.declared.fault.Fault.{Fault}
use Rattle.ca_fault.specs.declared.fault.Fault.TheVariants.{BadVector, NoMemory}
use Rattle.ca_on_cell.specs.Outputs.{Fits}
use Rattle.ca_on_cell.specs.Causes.{IsPairCause}

-- why a vector isn't one of the cell
abbrev pub IsUnfit : RawCell → List ℕ → Fault → Type 0
IsUnfit raw word (BadVector typed) = (typed ≡ word) × (KeepsRules raw × ¬ (Fits raw word))
IsUnfit raw word NoMemory = ⊤
IsUnfit raw word _ = ⊥

-- why a cell has no values under two vectors with a defect
abbrev pub IsEvaluationCause : List ℕ → List ℕ → List ℕ → RawCell → Fault → Type 0
IsEvaluationCause first last defect raw fault = (fault ≡ NoMemory) ⊎ IsPairCause first last defect fault raw
