use Rattle.std.proofs.Common.{◌≤◌, ℕ, sym, subst}
use Rattle.ca_cell.specs.declared.rule.TheConstants.{MOST_OUTPUTS}
use Rattle.ca_cell.proofs.NodeLemmas.{some_output, few_outputs}
use Rattle.ca_cell.proofs.cell.Cell.outputs.Goals as goal

pub returns-clause-some : goal.returns-clause-some
returns-clause-some c =
    subst (λ (count : ℕ). 1 ≤ count) (sym c.self.invariant.5) (some_output c.self.inside.raw c.self.invariant.1)

pub returns-clause-few : goal.returns-clause-few
returns-clause-few c =
    subst (λ (count : ℕ). count ≤ MOST_OUTPUTS) (sym c.self.invariant.5) (few_outputs c.self.inside.raw c.self.invariant.1)
