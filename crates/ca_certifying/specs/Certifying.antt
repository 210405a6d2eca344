-- What `certify` finds of a chip for the budget that a word says.
use Rattle.std.specs.Prelude.{ℕ, Bool, List}
use Rattle.ca_linked.specs.Linked.{LinkedChip}
use Rattle.ca_claim.specs.declared.certificate.Certificate.{Certificate}
use Rattle.ca_words.specs.Budget.{HasBudget}
use Rattle.ca_certifying.specs.Certified.{IsCertified}

-- the pairs, their aims and the certificate are those that are promised, and the certificate's budget is the
-- one that the word says
pub record IsCertifiedFor (budget_word : List ℕ) (chip : LinkedChip) (pairs : List (List Bool))
    (aims : List ℕ) (certificate : Certificate) : Type 0 where
  pub said : HasBudget budget_word certificate.budget
  pub certified : IsCertified certificate.budget chip pairs aims certificate
