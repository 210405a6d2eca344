use Rattle.std.proofs.Common.{◌∙◌, ◌+◌, ap, sym}
use Rattle.std.specs.Prelude.{drop}
use Rattle.ca_linked.specs.Cells.{used_from}
use Rattle.ca_linked.proofs.EndLemmas.{drop_at}
use Rattle.ca_linked.proofs.used.used_of.Goals as goal

pub loop-u-preserved : goal.loop-u-preserved
loop-u-preserved c =
    let parts = c.args.draft.now.parts in
    c.loop-u.invariant ∙ ap (used_from c.loop-u.used.items) (drop_at parts c.loop-u.u c.part.result.now c.part.ensures)
    ∙ ap (λ places. used_from places (drop (c.loop-u.u + 1) parts)) (sym (c.in_ok-push_cell.ensures {u = tt}))
