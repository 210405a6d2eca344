use Rattle.std.proofs.Common.{◌≤◌, length, subst, sym, arith}
use Rattle.ca_linked.specs.Linked.{net_count}
use Rattle.ca_merge.specs.Draft.{feeds_members}
use Rattle.ca_merge.proofs.PinLemmas.{passing_few}
use Rattle.ca_merge.proofs.pins.cluster_nets.Goals as goal

pub driven_nets-requires-clause-low : goal.driven_nets-requires-clause-low
driven_nets-requires-clause-low c =
    let few = c.wired.ensures.few_nets in
    let count = c.len.ensures in
    let listed : length c.in_ok-inputs.inputs.nets ≤ net_count c.args.chip.now =
    subst (λ xs. length xs ≤ net_count c.args.chip.now) (sym (c.in_ok-inputs.ensures {u = tt}).listed)
    (passing_few (feeds_members c.args.chip.now c.args.members.now) (net_count c.args.chip.now)) in
    omega arith
