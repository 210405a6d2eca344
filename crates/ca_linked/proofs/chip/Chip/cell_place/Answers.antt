use Rattle.std.proofs.Common.{◌≡◌, ◌∙◌, List, subst, ap, get_or}
use Rattle.ca_linked.specs.declared.parts.Part.{Part}
use Rattle.ca_linked.specs.Linked.{LinkedChip, IsWired}
use Rattle.ca_linked.proofs.CellLemmas.{part_read, gate_within}
use Rattle.ca_linked.proofs.UsedLemmas.{cell_is_used}
use Rattle.ca_linked.proofs.chip.Chip.cell_place.Goals as goal

pub returns-clause-within : goal.returns-clause-within
returns-clause-within c =
    let parts : c.self.inside.parts.items ≡ c.args.self.now.parts = ap (λ (chip : LinkedChip). chip.parts) c.self.view_is in
    let at = part_read c.args.self.now.parts c.args.u.0 c.index.result.now c.requires
    (c.index.ensures ∙ ap (λ (list : List Part). get_or list c.args.u.0 c.index.result.now) parts) in
    gate_within c.args.self.now (subst IsWired c.self.view_is c.self.invariant.wired) c.args.u.0
    c.index.result.now c.in-Gate.cell c.in-Gate.inputs c.in-Gate.outputs at c.in-Gate.is

pub returns-clause-used : goal.returns-clause-used
returns-clause-used c =
    let parts : c.self.inside.parts.items ≡ c.args.self.now.parts = ap (λ (chip : LinkedChip). chip.parts) c.self.view_is in
    let at = part_read c.args.self.now.parts c.args.u.0 c.index.result.now c.requires
    (c.index.ensures ∙ ap (λ (list : List Part). get_or list c.args.u.0 c.index.result.now) parts) in
    cell_is_used c.args.self.now c.args.u.0 c.index.result.now c.in-Gate.cell c.in-Gate.inputs c.in-Gate.outputs at c.in-Gate.is
