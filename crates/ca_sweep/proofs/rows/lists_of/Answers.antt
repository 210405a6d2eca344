use Rattle.std.proofs.Common.{arith}
use Rattle.ca_view.specs.Linked.{place_in}
use Rattle.ca_view.specs.Places.{cell_number}
use Rattle.ca_sweep.proofs.RowLemmas.{lists_more, lists_all}
use Rattle.ca_sweep.proofs.rows.lists_of.Goals as goal

pub loop-number-preserved : goal.loop-number-preserved
loop-number-preserved c =
    lists_more c.args.chip.now.core (place_in c.args.chip.now.ranks) (cell_number c.args.chip.now.chip) c.loop-number.number
    c.loop-number.lists.items c.push.new.self.items c.in_ok-list_for.field-0 c.loop-number.invariant c.in_ok-push.ensures.items
    c.in_ok-list_for.ensures

pub returns : goal.returns
returns c =
    lists_all c.args.chip.now.core (place_in c.args.chip.now.ranks) (cell_number c.args.chip.now.chip) c.loop-number.number
    c.loop-number.lists.items c.loop-number.invariant
    (λ u placed. let few = c.numbers-number-end.ensures u placed in let end = c.loop-number-test.false in omega arith)
