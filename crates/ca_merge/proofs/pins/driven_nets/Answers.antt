use Rattle.std.proofs.Common.{◌<◌, ◌≤◌, ◌∙◌, length, subst, sym, arith}
use Rattle.ca_linked.specs.Linked.{net_count}
use Rattle.ca_merge.specs.Draft.{drives_net}
use Rattle.ca_merge.proofs.PinLemmas.{passing_few, listed_more}
use Rattle.ca_merge.proofs.pins.driven_nets.Goals as goal

pub next-requires-clause-few : goal.next-requires-clause-few
next-requires-clause-few c =
    let within : c.loop-k.k < net_count c.args.chip.now = subst (λ n. c.loop-k.k < n) c.nets-k-end.ensures c.loop-k-test.true in
    let few = c.wired.ensures.few_nets in
    let listed : length c.loop-k.pins.nets ≤ c.loop-k.k =
    subst (λ xs. length xs ≤ c.loop-k.k) (sym c.loop-k.invariant.listed) (passing_few (drives_net c.args.chip.now c.args.members.now) c.loop-k.k) in
    omega arith

pub loop-k-preserved : goal.loop-k-preserved
loop-k-preserved c =
    let within : c.loop-k.k < net_count c.args.chip.now = subst (λ n. c.loop-k.k < n) c.nets-k-end.ensures c.loop-k-test.true in
    listed_more (drives_net c.args.chip.now c.args.members.now) c.args.first c.loop-k.k c.get.result c.loop-k.pins.nets c.loop-k.pins.seats.items
    c.next.new.self.nets c.next.new.self.seats.items c.loop-k.invariant
    (c.get.ensures ∙ c.requires.driven.each c.loop-k.k within) (c.in_ok-next.ensures.nets) (c.in_ok-next.ensures.seats)
