use Rattle.std.proofs.Common.{◌<◌, sym, subst, length}
use Rattle.std.specs.List.{All}
use Rattle.ca_linked.proofs.PathLemmas.{all_outputs}
use Rattle.ca_linked.proofs.paths.mark_data.Goals as goal

pub mark_all-requires-in-Gate : goal.mark_all-requires-in-Gate
mark_all-requires-in-Gate c =
    subst (All (λ net. net < length c.mark_all.new.self)) (sym c.as_slice-in-Gate.ensures)
    (subst (λ count. All (λ net. net < count) c.in-Gate.outputs) (sym c.mark_all.ensures.count)
    (all_outputs (λ net. net < length c.args.marks.now) c.args.body.now c.in-Gate.cell c.in-Gate.inputs c.in-Gate.outputs c.in-Gate.is c.requires))
