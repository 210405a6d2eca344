use Rattle.std.proofs.Common.{◌∙◌, length, sym, ap, arith}
use Rattle.ca_net.specs.State.{value_at}
use Rattle.ca_planes.specs.Trits.{state_in, trit_in}
use Rattle.ca_block.proofs.StateLemmas.{value_begun, begun_more, begins_of, is_state}
use Rattle.ca_block.proofs.start.begin.Goals as goal
use Rattle.ca_block.proofs.start.begin.Goals.{in-Input, in-Storage}

pub loop-n-preserved : goal.loop-n-preserved
loop-n-preserved g c =
    let net = g.N.Network.circuit c.args.net.now in
    let n = c.loop-n.n in
    let before = c.loop-n.invariant in
    record {
      room = record { zeros = c.set.ensures.zeros ∙ before.room.zeros; ones = c.set.ensures.ones ∙ before.room.ones };
      begun = λ lane.
          begun_more net (state_in c.args.vector.now lane) (state_in c.args.held.now lane) (state_in c.loop-n.at lane) (state_in c.set.new.self lane) n c.kind.result
          (trit_in c.match-kind.value lane) (omega (arith, c.loop-n-test.true, c.node_count-n-end.ensures.count, is_state (length net.nodes) c.loop-n.at lane before.room))
          (c.set.ensures.states lane) c.kind.ensures (elim c.match-kind.branch [
            | in-Input w ↦ ap (λ t. trit_in t lane) w.value-is ∙ w.get-value.ensures lane
                ∙ sym (ap (λ k. value_begun k (value_at (state_in c.args.vector.now lane) n) (value_at (state_in c.args.held.now lane) n)) w.in-Input.is)
            | in-Storage w ↦ ap (λ t. trit_in t lane) w.value-is ∙ w.get-value-in-Storage.ensures lane
                ∙ sym (ap (λ k. value_begun k (value_at (state_in c.args.vector.now lane) n) (value_at (state_in c.args.held.now lane) n)) w.in-Storage.is)
          ]) (before.begun lane);
    }

pub returns-clause-begun : goal.returns-clause-begun
returns-clause-begun g c lane low =
    let net = g.N.Network.circuit c.args.net.now in
    begins_of net (state_in c.args.vector.now lane) (state_in c.args.held.now lane) (state_in c.loop-n.at lane)
    (is_state (length net.nodes) c.loop-n.at lane c.loop-n.invariant.room)
    (λ m lt. c.loop-n.invariant.begun lane m (omega (arith, lt, c.loop-n-test.false, c.node_count-n-end.ensures.count)))
