use Rattle.std.proofs.Common.{◌+◌, sym, ap, subst, arith}
use Rattle.ca_view.specs.Linked.{place_in}
use Rattle.ca_view.specs.Places.{cell_number}
use Rattle.ca_examiner.specs.code.Order.{IsOrderTo}
use Rattle.ca_examiner.proofs.OrderLemmas.{order_more, order_skip}
use Rattle.ca_examiner.proofs.order.order_of.Goals.{then-place-gt0, else-place-gt0}
use Rattle.ca_examiner.proofs.order.order_of.Goals as goal

pub loop-u-preserved : goal.loop-u-preserved
loop-u-preserved c =
    let core = c.args.chip.now.core in
    let place_of = place_in c.args.chip.now.ranks in
    elim c.if-place-gt0.branch [
      | then-place-gt0 w ↦
          order_more core place_of (cell_number c.args.chip.now.chip) c.linked.ensures.linked c.loop-u.u c.rank-place.result
          (omega (arith, c.loop-u-test.true, c.instances-u-end.ensures)) c.rank-place.ensures c.loop-u.order.items c.loop-u.invariant
          (let some = w.if-place-gt0 in omega arith) c.if-place-gt0.order.items (ap (λ v. v.items) w.order-is)
      | else-place-gt0 w ↦ subst (λ o. IsOrderTo core place_of (c.loop-u.u + 1) o) (sym (ap (λ v. v.items) w.order-is))
          (order_skip core place_of (cell_number c.args.chip.now.chip) c.linked.ensures.linked c.loop-u.u c.rank-place.result
          (omega (arith, c.loop-u-test.true, c.instances-u-end.ensures)) c.rank-place.ensures c.loop-u.order.items c.loop-u.invariant
          (λ some. let none = w.if-place-gt0 in absurd (omega arith)))
    ]
