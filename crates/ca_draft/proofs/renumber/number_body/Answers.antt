use Rattle.std.proofs.Common.{◌<◌, ℕ, length, subst}
use Rattle.std.specs.List.{All}
use Rattle.ca_linked.specs.declared.parts.Body.{Body}
use Rattle.ca_draft.specs.code.OnWires.{pins_of}
use Rattle.ca_draft.proofs.DraftLemmas.{after_all}
use Rattle.ca_draft.proofs.renumber.number_body.Goals as goal

pub number_list-requires-in-Gate : goal.number_list-requires-in-Gate
number_list-requires-in-Gate c =
    after_all (λ (wire : ℕ). wire < length c.args.table.now.numbers) c.in-Gate.inputs c.in-Gate.outputs
    (subst (λ (b : Body). All (λ (wire : ℕ). wire < length c.args.table.now.numbers) (pins_of b)) c.in-Gate.is c.requires)
