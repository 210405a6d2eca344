use Rattle.std.proofs.Common.{true, subst, refl}
use Rattle.ca_net.specs.State.{value_at}
use Rattle.ca_flat.specs.Chip.{outputs_at}
use Rattle.ca_sweep.specs.Seen.{IsClear}
use Rattle.ca_sweep.specs.code.Kept.{IsPassing, AreOutputsClear}
use Rattle.ca_sweep.proofs.ClearLemmas.{clear_of, marks_put}
use Rattle.ca_sweep.proofs.clear.mark.Goals as goal

pub is_passing-requires-clause-clear : goal.is_passing-requires-clause-clear
is_passing-requires-clause-clear c =
    let core = c.args.chip.now.core in
    clear_of core (value_at c.args.lasts.now) c.args.passing.now.items c.args.u c.requires.passing
    (subst (λ marks. AreOutputsClear core (value_at c.args.lasts.now) marks c.args.u (outputs_at core c.args.u)) c.deref.ensures.value (c.if-are_outputs_clear.ensures refl))

pub returns-then-are_outputs_clear-clause-clear : goal.returns-then-are_outputs_clear-clause-clear
returns-then-are_outputs_clear-clause-clear c =
    let core = c.args.chip.now.core in
    marks_put core (IsClear core (value_at c.args.lasts.now)) c.args.clear.now.items _ c.args.u true c.requires.clear c.requires.placed.known refl
    (λ is. clear_of core (value_at c.args.lasts.now) c.args.passing.now.items c.args.u c.requires.passing
    (subst (λ marks. AreOutputsClear core (value_at c.args.lasts.now) marks c.args.u (outputs_at core c.args.u)) c.deref.ensures.value (c.if-are_outputs_clear.ensures refl)))

pub returns-then-are_outputs_clear-clause-passing : goal.returns-then-are_outputs_clear-clause-passing
returns-then-are_outputs_clear-clause-passing c =
    let core = c.args.chip.now.core in
    marks_put core (IsPassing core (value_at c.args.lasts.now)) c.args.passing.now.items _ c.args.u c.is_passing.result c.requires.passing c.requires.placed.known refl
    (λ is. c.is_passing.ensures is)
