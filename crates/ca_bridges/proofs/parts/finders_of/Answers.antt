use Rattle.ca_sweep.specs.Seen.{IsForChip}
use Rattle.ca_bridges.proofs.PartLemmas.{each_begin, each_pushed}
use Rattle.ca_bridges.proofs.parts.finders_of.Goals as goal

pub loop-k-init : goal.loop-k-init
loop-k-init c = each_begin (λ view finder. IsForChip view.core view.ranks finder) c.args.views.now c.new-finders.result.items c.new-finders.ensures.items

pub loop-k-preserved : goal.loop-k-preserved
loop-k-preserved c = each_pushed (λ view finder. IsForChip view.core view.ranks finder) c.args.views.now c.loop-k.k c.loop-k.finders.items
    c.push.new.self.items c.view_at-view.result.now c.in_ok-finder.finder c.loop-k.invariant c.view_at-view.ensures c.in_ok-finder.ensures
    c.in_ok-push.ensures.items
