use Rattle.ca_net.specs.State.{value_at}
use Rattle.ca_view.specs.Linked.{IsPlaced, place_in}
use Rattle.ca_view.specs.Places.{cell_number}
use Rattle.ca_sweep.specs.Seen.{IsClear}
use Rattle.ca_sweep.proofs.ClearLemmas.{all_clear, marks_by}
use Rattle.ca_sweep.proofs.clear.find_clear.Goals as goal

pub mark-requires-clause-placed : goal.mark-requires-clause-placed
mark-requires-clause-placed c = (c.requires.order.only _ c.in-Some.u c.in-Some.is).0

pub returns-then-are_all_definite-clause-clear : goal.returns-then-are_all_definite-clause-clear
returns-then-are_all_definite-clause-clear c =
    let chip = c.args.chip.now in
    marks_by chip.core (IsPlaced chip.core (place_in chip.ranks)) (IsClear chip.core (value_at c.args.lasts.now)) c.mark_placed.new.marks.items
    c.mark_placed.ensures
    (all_clear chip.core (place_in chip.ranks) (cell_number chip.chip) (value_at c.args.lasts.now)
    c.linked.ensures.linked (c.requires.all_static c.if-is_static.true) (c.are_all_definite.ensures c.if-are_all_definite.true))
