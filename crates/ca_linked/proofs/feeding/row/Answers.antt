use Rattle.std.proofs.Common.{◌≡◌, ℕ, List, ◌+◌, length, subst, sym, ◌∙◌, arith}
use Rattle.std.specs.Prelude.{◌↔◌}
use Rattle.std.specs.List.{Contains}
use Rattle.ca_linked.specs.Linked.{input_nets}
use Rattle.ca_linked.specs.code.Feeding.{IsGateOn, FeedsPin, IsRow}
use Rattle.ca_linked.proofs.FeedingLemmas.{row_pushed, row_kept, row_done, row_of_scan}
use Rattle.ca_linked.proofs.feeding.row.Goals as goal
use Rattle.ca_linked.proofs.feeding.row.Goals.{in-Some+in_ok-push, in_default, then-is_gate+else-loop-pin-test}
use Rattle.ca_linked.proofs.feeding.row.Goals.{else-is_gate}

pub loop-pin-preserved : goal.loop-pin-preserved
loop-pin-preserved c =
    let chip = c.args.draft.now in
    let body = c.part.result.now.body in
    elim c.match-gate_on.branch [
      | in-Some+in_ok-push w ↦
          subst (λ (row : List ℕ). (x : ℕ) → Contains row x ↔ FeedsPin chip body (c.loop-pin.pin + 1) x) (sym (w.row-is ∙ w.in_ok-push.ensures.ok))
          (row_pushed chip body c.loop-pin.row c.loop-pin.pin c.input.result c.input.ensures c.loop-pin.invariant w.in-Some.w
          (subst (IsGateOn chip c.input.result) w.in-Some.is c.gate_on.ensures))
      | in_default w ↦
          subst (λ (row : List ℕ). (x : ℕ) → Contains row x ↔ FeedsPin chip body (c.loop-pin.pin + 1) x) (sym w.row-is)
          (row_kept chip body c.loop-pin.row c.loop-pin.pin c.input.result c.input.ensures c.loop-pin.invariant
          (subst (IsGateOn chip c.input.result) w.in_default.is c.gate_on.ensures))
    ]

pub returns : goal.returns
returns c =
    let chip = c.args.draft.now in
    let body = c.part.result.now.body in
    elim c.if-is_gate.branch [
      | then-is_gate+else-loop-pin-test w ↦
          let count = w.input_count-pin-end.ensures in
          let past = w.loop-pin-test.false in
          let most = w.loop-pin.auto.pin-end in
          let all : w.loop-pin.pin ≡ length (input_nets body) = omega (arith, count, past, most) in
          subst (IsRow chip c.args.u) (sym w.row-is)
          (row_done chip c.args.u c.part.result.now c.part.ensures (c.is_gate.ensures.0 w.if-is_gate.true) w.loop-pin.row
          (subst (λ k. (x : ℕ) → Contains w.loop-pin.row x ↔ FeedsPin chip body k x) all w.loop-pin.invariant))
      | else-is_gate w ↦
          subst (IsRow chip c.args.u) (sym (w.row-is ∙ c.new-row.ensures))
          (row_of_scan chip c.args.u c.part.result.now c.part.ensures (λ is. let holds = c.is_gate.ensures.1 is in let fails = w.if-is_gate.false in cc))
    ]
