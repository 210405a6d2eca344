use Rattle.std.proofs.Common.{◌≡◌, ◌<◌, ◌+◌, sym, subst, arith, IsTrue, true, false}
use Rattle.ca_every_vector.specs.code.Masks.{HasAllBelow}
use Rattle.ca_every_vector.proofs.VectorLemmas.{row_count}
use Rattle.ca_every_vector.proofs.MaskLemmas.{row_set, row_left}
use Rattle.ca_every_vector.proofs.rows.rows_over.Goals as goal
use Rattle.ca_every_vector.proofs.rows.rows_over.Goals.{then-is_over, else-is_over}

pub overflow_shl-rows : goal.overflow_shl-rows
overflow_shl-rows c = let k = row_count c.inputs-count.result c.inputs-count.ensures.few in omega arith

pub loop-number-preserved : goal.loop-number-preserved
loop-number-preserved c =
    let k = row_count c.inputs-count.result c.inputs-count.ensures.few in
    let low : c.loop-number.number < 64 = omega arith in
    elim c.if-is_over.branch [
      | then-is_over w ↦ subst (HasAllBelow c.args.chip.now.core c.args.u c.args.values.now (c.loop-number.number + 1)) (sym w.rows-is)
          (row_set c.args.chip.now.core c.args.u c.args.values.now c.loop-number.number c.loop-number.rows low c.loop-number.invariant)
      | else-is_over w ↦ subst (HasAllBelow c.args.chip.now.core c.args.u c.args.values.now (c.loop-number.number + 1)) (sym w.rows-is)
          (row_left c.args.chip.now.core c.args.u c.args.values.now c.loop-number.number c.loop-number.rows low c.loop-number.invariant
          (λ over. let e : false ≡ true = subst IsTrue w.if-is_over.false (c.is_over.ensures over) in cc))
    ]
