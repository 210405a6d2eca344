-- What is read of the digits of a number.
use Rattle.std.proofs.Common.{◌≡◌, ℕ, List, arith}
use Rattle.std.specs.Prelude.{Result, Ok}
use Rattle.std.specs.Str.Parse.{ParsesUnsigned}
use Rattle.std.proofs.lemmas.Fmt.{parse-decimal}
use Rattle.ca_words.specs.Budget.{HasBudget, HasChipNumber}

-- a budget is read as it is written
pub said_is_read : {E : Type 0} (word : List ℕ) (budget : ℕ) (answer : Result ℕ E) → HasBudget word budget → ParsesUnsigned 32 10 word answer → answer ≡ Ok budget
said_is_read word budget answer is parses = parse-decimal 32 budget word answer (let few = is.few in omega (arith, few)) (let few = is.few in omega (arith, few)) is.is parses

-- so is the number of a generated chip
pub number_is_read : {E : Type 0} (word : List ℕ) (number : ℕ) (answer : Result ℕ E) → HasChipNumber word number → ParsesUnsigned 32 10 word answer → answer ≡ Ok number
number_is_read word number answer is parses = parse-decimal 32 number word answer (let few = is.few in omega (arith, few)) (let few = is.few in omega (arith, few)) is.is parses
