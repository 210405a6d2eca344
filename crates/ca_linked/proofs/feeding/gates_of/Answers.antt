use Rattle.std.proofs.Common.{◌≡◌, ◌+◌, subst, sym, ◌∙◌, arith, length}
use Rattle.ca_linked.specs.code.Feeding.{HasGates}
use Rattle.ca_linked.proofs.FeedingLemmas.{gate_pushed, gate_skipped}
use Rattle.ca_linked.proofs.feeding.gates_of.Goals as goal
use Rattle.ca_linked.proofs.feeding.gates_of.Goals.{then-is_gate+in_ok-push, else-is_gate}

pub loop-u-preserved : goal.loop-u-preserved
loop-u-preserved c =
    let chip = c.args.draft.now in
    let u = c.loop-u.u in
    elim c.if-is_gate.branch [
      | then-is_gate+in_ok-push w ↦
          subst (HasGates chip (u + 1)) (sym (w.gates-is ∙ w.in_ok-push.ensures.ok))
          (gate_pushed chip u c.part.result.now c.part.ensures c.loop-u.gates c.loop-u.invariant (c.is_gate.ensures.0 w.if-is_gate.true))
      | else-is_gate w ↦
          subst (HasGates chip (u + 1)) (sym w.gates-is)
          (gate_skipped chip u c.part.result.now c.part.ensures c.loop-u.gates c.loop-u.invariant
          (λ is. let holds = c.is_gate.ensures.1 is in let fails = w.if-is_gate.false in cc))
    ]

pub returns : goal.returns
returns c =
    let count = c.parts-u-end.ensures in
    let past = c.loop-u-test.false in
    let most = c.loop-u.auto.u-end in
    let all : c.loop-u.u ≡ length c.args.draft.now.parts = omega (arith, count, past, most) in
    subst (λ k. HasGates c.args.draft.now k c.loop-u.gates) all c.loop-u.invariant
