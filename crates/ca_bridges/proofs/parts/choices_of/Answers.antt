use Rattle.ca_judge.specs.Attempt.{IsTriedOn}
use Rattle.ca_bridges.proofs.PartLemmas.{each_begin, each_pushed}
use Rattle.ca_bridges.proofs.parts.choices_of.Goals as goal

pub loop-k-init : goal.loop-k-init
loop-k-init c = each_begin (λ view choice. IsTriedOn view.core view.ranks choice) c.args.views.now c.new-choices.result.items c.new-choices.ensures.items

pub loop-k-preserved : goal.loop-k-preserved
loop-k-preserved c = each_pushed (λ view choice. IsTriedOn view.core view.ranks choice) c.args.views.now c.loop-k.k c.loop-k.choices.items
    c.push.new.self.items c.view_at-view.result.now c.in_ok-choice.choice c.loop-k.invariant c.view_at-view.ensures c.in_ok-choice.ensures
    c.in_ok-push.ensures.items
