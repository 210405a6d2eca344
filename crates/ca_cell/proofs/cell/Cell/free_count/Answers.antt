use Rattle.std.proofs.Common.{◌-◌, ◌≤◌, ℕ, ap, sym, ◌∙◌, subst}
use Rattle.ca_cell.specs.declared.rule.TheConstants.{MOST_NODES}
use Rattle.ca_cell.proofs.NodeLemmas.{length-free, some_free, few_free}
use Rattle.ca_cell.proofs.cell.Cell.free_count.Goals as goal

pub returns-clause-some : goal.returns-clause-some
returns-clause-some c =
    let count = length-free c.self.inside.raw c.self.inside.nodes c.self.inside.inputs c.self.invariant.2 c.self.invariant.4 in
    let same = ap (λ nodes. nodes - c.self.inside.inputs) c.len.ensures ∙ count in
    subst (λ (free : ℕ). 3 ≤ free) (sym same) (some_free c.self.inside.raw c.self.invariant.1)

pub returns-clause-few : goal.returns-clause-few
returns-clause-few c =
    let count = length-free c.self.inside.raw c.self.inside.nodes c.self.inside.inputs c.self.invariant.2 c.self.invariant.4 in
    let same = ap (λ nodes. nodes - c.self.inside.inputs) c.len.ensures ∙ count in
    subst (λ (free : ℕ). free ≤ MOST_NODES) (sym same) (few_free c.self.inside.raw c.self.invariant.1)
