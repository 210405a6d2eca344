use Rattle.std.proofs.Common.{◌≤◌, ℕ, sym, subst}
use Rattle.ca_cell.specs.declared.rule.TheConstants.{MOST_INPUTS}
use Rattle.ca_cell.proofs.NodeLemmas.{few_inputs}
use Rattle.ca_cell.proofs.cell.Cell.inputs.Goals as goal

pub returns-clause-few : goal.returns-clause-few
returns-clause-few c =
    subst (λ (count : ℕ). count ≤ MOST_INPUTS) (sym c.self.invariant.4) (few_inputs c.self.inside.raw c.self.invariant.1)
