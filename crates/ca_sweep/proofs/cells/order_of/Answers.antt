use Rattle.std.proofs.Common.{set, Some, ◌+◌, ◌<◌, sym, subst, ap, ◌∙◌, arith}
use Rattle.ca_view.specs.Linked.{place_in}
use Rattle.ca_view.specs.Places.{cell_number}
use Rattle.ca_sweep.specs.Tables.{AreAtPlaces}
use Rattle.ca_sweep.proofs.CellLemmas.{order_skipped, order_put}
use Rattle.ca_sweep.proofs.cells.order_of.Goals.{then-place-gt0, else-place-gt0}
use Rattle.ca_sweep.proofs.cells.order_of.Goals as goal

pub loop-u-preserved : goal.loop-u-preserved
loop-u-preserved c =
    let core = c.args.chip.now.core in
    let place_of = place_in c.args.chip.now.ranks in
    let known : c.loop-u.u < c.instances-u-end.result = c.loop-u-test.true in
    elim c.if-place-gt0.branch [
      | then-place-gt0 w ↦ subst (λ order. AreAtPlaces core place_of (c.loop-u.u + 1) order.items) (sym w.order-is)
          (order_put core place_of (cell_number c.args.chip.now.chip) c.linked.ensures.linked c.loop-u.u c.loop-u.order.items c.loop-u.invariant
          (omega (arith, c.instances-u-end.ensures)) (let some = w.if-place-gt0.true in let is = c.rank-place.ensures in omega arith) _
          (w.put_at.ensures ∙ ap (λ place. set c.loop-u.order.items place (Some c.loop-u.u)) c.rank-place.ensures))
      | else-place-gt0 w ↦ subst (λ order. AreAtPlaces core place_of (c.loop-u.u + 1) order.items) (sym w.order-is)
          (order_skipped core place_of (cell_number c.args.chip.now.chip) c.linked.ensures.linked c.loop-u.u c.loop-u.order.items c.loop-u.invariant
          (omega (arith, c.instances-u-end.ensures)) (let none = w.if-place-gt0.false in let is = c.rank-place.ensures in omega arith))
    ]
