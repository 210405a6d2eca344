use Rattle.std.proofs.Common.{◌≡◌, ◌<◌, length, ◌∙◌, ap, arith, get_or, length-set}
use Rattle.ca_net.specs.Path.{Root, strength_of}
use Rattle.ca_relax.proofs.OthersLemmas.{respond_more}
use Rattle.ca_relax.proofs.relax.respond.Goals as goal

pub loop-node-preserved : goal.loop-node-preserved
loop-node-preserved g c =
    let net = g.N.Network.circuit c.args.net.now in
    let node = c.loop-node.node in
    let within : node < length net.nodes = omega (arith, c.loop-node-test.true, c.node_count-nodes.ensures.count) in
    let own = c.as_slice-own.ensures.value ∙ ap (λ lists. lists.strengths) c.groups.view_is in
    let is_own : get_or c.as_slice-own.result.now node 0 ≡ strength_of net (Root node) =
    ap (λ xs. get_or xs node 0) own ∙ c.requires.groups.own node within in
    record {
      room = rw c.set.ensures (length-set c.loop-node.out node c.response_of-value.result ∙ c.loop-node.invariant.room);
      responses = rw c.set.ensures (respond_more net c.args.state.now c.loop-node.out node (get_or c.as_slice-own.result.now node 0) c.get.result
          c.find_others.new.not_zero c.find_others.new.not_one c.response_of-value.result c.node_count-nodes.ensures.well_formed within
          (omega (arith, within, c.loop-node.invariant.room, c.requires.out)) is_own c.get.ensures c.find_others.ensures.zero c.find_others.ensures.one
          c.response_of-value.ensures c.loop-node.invariant.responses);
    }
