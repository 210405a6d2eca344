use Rattle.ca_view.specs.View.{IsViewOf}
use Rattle.ca_bridges.proofs.PartLemmas.{each_begin, each_pushed}
use Rattle.ca_bridges.proofs.parts.views_of.Goals as goal

pub loop-k-init : goal.loop-k-init
loop-k-init c = each_begin (λ cluster view. IsViewOf cluster.chip view) c.args.clusters.now c.new-views.result.items c.new-views.ensures.items

pub loop-k-preserved : goal.loop-k-preserved
loop-k-preserved c = each_pushed (λ cluster view. IsViewOf cluster.chip view) c.args.clusters.now c.loop-k.k c.loop-k.views.items
    c.push.new.self.items c.cluster_at-cluster.result.now c.in_ok-view.view c.loop-k.invariant c.cluster_at-cluster.ensures c.in_ok-view.ensures
    c.in_ok-push.ensures.items
