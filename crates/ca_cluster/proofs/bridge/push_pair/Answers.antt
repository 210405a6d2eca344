use Rattle.std.proofs.Common.{refl}
use Rattle.ca_cluster.proofs.PairLemmas.{first_kept, first_pushed, pair_is}
use Rattle.ca_cluster.proofs.bridge.push_pair.Goals as goal

pub returns-then-not-is_bridge : goal.returns-then-not-is_bridge
returns-then-not-is_bridge c =
    first_kept c.args.of.instance.0 c.args.of.inputs c.args.of.nodes c.args.m c.args.n c.args.list.now c.requires.first c.args.list.now
    (λ bridge pair low high.
    let holds = c.is_bridge.ensures.1 (pair_is c.args.of.instance.0 c.args.of.inputs c.args.of.nodes c.args.m c.args.n bridge pair low high) in
    let fails = c.if-not-is_bridge.true in cc) refl

pub returns : goal.returns
returns c =
    let is = c.is_bridge.ensures.0 c.if-not-is_bridge.false in
    first_pushed c.args.of.instance.0 c.args.of.inputs c.args.of.nodes c.args.m c.args.n c.args.list.now c.requires.first _ c.push.new.self
    (record { of = refl; within = c.requires.within; ordered = is.0; pin = is.1 }) refl refl c.in_ok-push.ensures.ok
