use Rattle.std.proofs.Common.{◌≡◌, ◌∙◌, inl, inr, sym, ap, subst}
use Rattle.ca_linked.specs.declared.parts.Source.{Source}
use Rattle.ca_linked.specs.declared.parts.Source.TheVariants.{FromPin}
use Rattle.ca_linked.specs.Linked.{Drives}
use Rattle.ca_flatten.proofs.KindLemmas.{port_kind, constant_kind, q_kind, stored_output}
use Rattle.ca_flatten.proofs.nodes.kind_of.Goals as goal
use Rattle.ca_flatten.proofs.nodes.kind_of.Goals.{else-pin-eq0-via-then-pin-eq0+else-not-has}
use Rattle.ca_flatten.proofs.nodes.kind_of.Goals.{else-pin-eq0-via-else-pin-eq0}

pub returns-in-FromPort : goal.returns-in-FromPort
returns-in-FromPort c =
    let chip = c.args.chip.now in
    let net = c.args.net.0 in
    elim c.in-FromPort.is [
      | inl port ↦ sym (port_kind chip c.wired.ensures net port.0 (subst (λ (s : Source). Drives chip net s) port.1 c.driver.ensures))
      | inr constant ↦ sym (constant_kind chip c.wired.ensures net constant.0 (subst (λ (s : Source). Drives chip net s) constant.1 c.driver.ensures))
    ]

pub returns-then-not-has : goal.returns-then-not-has
returns-then-not-has c =
    let chip = c.args.chip.now in
    let net = c.args.net.0 in
    let driver = c.driver.result in
    let is : driver ≡ FromPin c.in-FromPin.u 0 = c.in-FromPin.is ∙ ap (FromPin c.in-FromPin.u) c.if-pin-eq0.true in
    sym (q_kind chip c.wired.ensures net c.in-FromPin.u (subst (λ (s : Source). Drives chip net s) is c.driver.ensures)
    (λ library. let marked = (c.requires.gates.each c.in-FromPin.u).1 library in let un = c.if-not-has.ensures {u = tt} in absurd cc))

pub returns-else-pin-eq0 : goal.returns-else-pin-eq0
returns-else-pin-eq0 c =
    let chip = c.args.chip.now in
    let net = c.args.net.0 in
    sym (stored_output chip c.wired.ensures net c.in-FromPin.u c.in-FromPin.pin
    (subst (λ (s : Source). Drives chip net s) c.in-FromPin.is c.driver.ensures) c.requires.off_path
    (λ both. elim c.else-pin-eq0.branch [
      | else-pin-eq0-via-then-pin-eq0+else-not-has w ↦
          both.1 ((c.requires.gates.each c.in-FromPin.u).0 (sym (w.if-not-has.ensures {u = tt})))
      | else-pin-eq0-via-else-pin-eq0 w ↦ w.if-pin-eq0.false both.0
    ]))
