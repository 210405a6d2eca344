use Rattle.std.proofs.Common.{◌∙◌, ◌||◌, sym, ap, subst, arith}
use Rattle.ca_levels.specs.code.Come.{RaiseBoth}
use Rattle.ca_levels.proofs.LeadLemmas.{pair_raises}
use Rattle.ca_levels.proofs.close.sweep_pair.Goals as goal

pub returns-then-zeros_rose-2 : goal.returns-then-zeros_rose-2
returns-then-zeros_rose-2 c =
    subst (RaiseBoth c.args.devices.now c.args.links.now c.args.blocked.now c.args.zeros.now c.loop-i.zeros c.args.ones.now c.loop-i.ones)
    (ap (λ b. b || c.loop-i.ones_rose) c.if-zeros_rose-2.true ∙ sym c.if-zeros_rose-2.true)
    (pair_raises c.args.devices.now c.args.links.now c.args.blocked.now c.args.zeros.now c.loop-i.zeros c.args.ones.now c.loop-i.ones c.loop-i.zeros_rose c.loop-i.ones_rose
    c.loop-i.i (omega (arith, c.loop-i-test.false)) c.loop-i.invariant.zeros c.loop-i.invariant.ones c.loop-i.invariant.zeros_settled c.loop-i.invariant.ones_settled)

pub returns-else-zeros_rose-2 : goal.returns-else-zeros_rose-2
returns-else-zeros_rose-2 c =
    subst (RaiseBoth c.args.devices.now c.args.links.now c.args.blocked.now c.args.zeros.now c.loop-i.zeros c.args.ones.now c.loop-i.ones)
    (ap (λ b. b || c.loop-i.ones_rose) c.if-zeros_rose-2.false)
    (pair_raises c.args.devices.now c.args.links.now c.args.blocked.now c.args.zeros.now c.loop-i.zeros c.args.ones.now c.loop-i.ones c.loop-i.zeros_rose c.loop-i.ones_rose
    c.loop-i.i (omega (arith, c.loop-i-test.false)) c.loop-i.invariant.zeros c.loop-i.invariant.ones c.loop-i.invariant.zeros_settled c.loop-i.invariant.ones_settled)
