-- The words for a budget, how many branches each search may have, and for the number of a generated chip.
use Rattle.std.specs.Prelude.{ℕ, ◌≡◌, ◌≤◌, List, decimal}
use Rattle.ca_make.specs.declared.gate.TheConstants.{MOST_GATES}
use Rattle.ca_words.specs.declared.budget.TheConstants.{MOST_BUDGET}

-- the word is this number in decimal digits, without a sign or a leading zero, and the number is not too
-- great
pub record HasBudget (word : List ℕ) (budget : ℕ) : Type 0 where
  pub is : word ≡ decimal budget
  pub few : budget ≤ MOST_BUDGET

-- the word is such a number
abbrev pub IsBudget : List ℕ → Type 0
IsBudget word = (budget : ℕ) × HasBudget word budget

-- the word is this number in decimal digits, without a sign or a leading zero, and there is a generated chip
-- of it
pub record HasChipNumber (word : List ℕ) (number : ℕ) : Type 0 where
  pub is : word ≡ decimal number
  pub some : 1 ≤ number
  pub few : number ≤ MOST_GATES

-- the word is such a number
abbrev pub IsChipNumber : List ℕ → Type 0
IsChipNumber word = (number : ℕ) × HasChipNumber word number
