use Rattle.std.proofs.Common.{◌∙◌, length, sym, ap, arith, refl}
use Rattle.ca_net.specs.State.{value_at}
use Rattle.ca_net.specs.Trit.{meet_of}
use Rattle.ca_planes.specs.Trits.{state_in, trit_in}
use Rattle.ca_block.proofs.StateLemmas.{met_more, met_all, is_state}
use Rattle.ca_block.proofs.start.meet.Goals as goal

pub loop-n-preserved : goal.loop-n-preserved
loop-n-preserved c =
    let n = c.loop-n.n in
    let before = c.loop-n.invariant in
    let nodes = length c.args.state.now.zeros.items in
    record {
      room = record { zeros = c.set.ensures.zeros ∙ before.room.zeros; ones = c.set.ensures.ones ∙ before.room.ones };
      met = λ lane.
          met_more (state_in c.args.other.now lane) (state_in c.args.state.now lane) (state_in c.loop-n.into lane) (state_in c.set.new.self lane) n
          (trit_in c.meet.result lane) (omega (arith, c.loop-n-test.true, c.len-n-end.ensures, is_state nodes c.loop-n.into lane before.room))
          (c.set.ensures.states lane)
          (c.meet.ensures lane ∙ ap (λ x. meet_of x (trit_in c.get-in-loop-n.result lane)) (c.get.ensures lane)
          ∙ ap (meet_of (value_at (state_in c.args.state.now lane) n)) (c.get-in-loop-n.ensures lane))
          (before.met lane);
    }

pub returns-clause-meets : goal.returns-clause-meets
returns-clause-meets c lane low =
    let kept = c.loop-n.invariant in
    let nodes = length c.args.state.now.zeros.items in
    let into = is_state nodes c.loop-n.into lane kept.room in
    let state = is_state nodes c.args.state.now lane (record { zeros = refl; ones = c.requires.state }) in
    let other = is_state nodes c.args.other.now lane c.requires.other in
    met_all (state_in c.args.other.now lane) (state_in c.args.state.now lane) (state_in c.loop-n.into lane) (other ∙ sym into) (state ∙ sym into)
    (λ n lt. kept.met lane n (omega (arith, lt, into, c.loop-n-test.false, c.len-n-end.ensures)))
