use Rattle.std.proofs.Common.{◌∙◌, ◌||◌, sym, ap, subst}
use Rattle.ca_levels.specs.code.Come.{Raises}
use Rattle.ca_levels.proofs.LeadLemmas.{both_raise, both_closed}
use Rattle.ca_levels.proofs.close.lead_both.Goals as goal

pub returns-then-forth-clause-raises : goal.returns-then-forth-clause-raises
returns-then-forth-clause-raises c =
    subst (Raises c.args.devices.now c.args.links.now c.args.blocked.now c.args.reached.now c.lead-back.new.reached)
    (ap (λ b. b || c.lead-back.result) c.if-forth.true ∙ sym c.if-forth.true)
    (both_raise c.args.devices.now c.args.links.now c.args.blocked.now c.args.i c.args.reached.now c.lead-forth.new.reached c.lead-back.new.reached
    c.lead-forth.result c.lead-back.result c.requires.named c.requires.device c.lead-forth.ensures c.lead-back.ensures)

pub returns-else-forth-clause-raises : goal.returns-else-forth-clause-raises
returns-else-forth-clause-raises c =
    subst (Raises c.args.devices.now c.args.links.now c.args.blocked.now c.args.reached.now c.lead-back.new.reached)
    (ap (λ b. b || c.lead-back.result) c.if-forth.false)
    (both_raise c.args.devices.now c.args.links.now c.args.blocked.now c.args.i c.args.reached.now c.lead-forth.new.reached c.lead-back.new.reached
    c.lead-forth.result c.lead-back.result c.requires.named c.requires.device c.lead-forth.ensures c.lead-back.ensures)

pub returns-else-forth-clause-settled : goal.returns-else-forth-clause-settled
returns-else-forth-clause-settled c still =
    both_closed c.args.devices.now c.args.links.now c.args.blocked.now c.args.i c.args.reached.now c.lead-forth.new.reached c.lead-back.new.reached
    c.lead-forth.result c.lead-back.result c.requires.named c.requires.device c.lead-forth.ensures c.lead-back.ensures c.if-forth.false still
