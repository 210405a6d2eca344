use Rattle.std.proofs.Common.{ℕ, ◌<◌, ◌∙◌, false, not, inl, inr, sym, ap, subst, arith}
use Rattle.std.proofs.lemmas.Bool.{cases_eq}
use Rattle.ca_net.specs.State.{value_at}
use Rattle.ca_net.specs.Trit.{IsBelow}
use Rattle.ca_cell.specs.Row.{vector_of}
use Rattle.ca_flat.specs.Chip.{inputs_at, net_of}
use Rattle.ca_planes.specs.Plane.{has_lane}
use Rattle.ca_every_vector.specs.Possible.{Has}
use Rattle.ca_every_vector.specs.code.Lanes.{values_of}
use Rattle.ca_every_vector.proofs.LaneLemmas.{is_both, true_or_false}
use Rattle.ca_every_vector.proofs.lane_tried.rows_except.Goals as goal

pub loop-number-init : goal.loop-number-init
loop-number-init c = λ lane number low less over. absurd (omega arith)

pub loop-number-preserved : goal.loop-number-preserved
loop-number-preserved c = λ lane number low less over.
    let core = c.args.chip.now.core in
    let at = c.loop-number.number in
    elim (cases_eq number at) [
      | inr other ↦ elim (c.loop-number.invariant lane number low (omega (arith, other)) over) [
        | inl stays ↦ inl stays
        | inr has ↦ inr (c.row_if-rows.ensures.more number has)
      ]
      | inl e ↦ elim (true_or_false (has_lane c.args.stays lane)) [
        | inl stays ↦ inl stays
        | inr leaves ↦ inr (subst (Has c.row_if-rows.result) (sym e) (c.row_if-rows.ensures.here lane low
            (c.except-lanes.ensures lane ∙ is_both _ _ (c.lanes_over.ensures lane low
            (subst (λ n. (pin : ℕ) → pin < inputs_at core c.args.u → IsBelow (values_of c.args.values.now lane (net_of core c.args.u pin)) (value_at (vector_of (inputs_at core c.args.u) n) pin)) e over))
            (ap not leaves))))
      ]
    ]

pub returns : goal.returns
returns c = λ lane number low less over. c.loop-number.invariant lane number low (let past = c.loop-number-test.false in let e = c.vector_count-number-end.ensures.count in omega arith) over
