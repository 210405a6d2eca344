use Rattle.std.proofs.Common.{◌≡◌, ◌∙◌, length, sym, arith, refl}
use Rattle.ca_net.specs.State.{value_at}
use Rattle.ca_settle.proofs.WriteLemmas.{write_more}
use Rattle.ca_planes.specs.Trits.{state_in, trit_in}
use Rattle.ca_block.specs.Limits.{source_lane}
use Rattle.ca_block.proofs.StateLemmas.{same_states, is_state}
use Rattle.ca_block.proofs.spread.spread.Goals as goal

pub loop-n-preserved : goal.loop-n-preserved
loop-n-preserved c =
    let n = c.loop-n.n in
    let before = c.loop-n.invariant in
    let nodes = length c.args.states.now.zeros.items in
    record {
      room = record { zeros = c.set.ensures.zeros ∙ before.room.zeros; ones = c.set.ensures.ones ∙ before.room.ones };
      spread = λ lane m low lt.
          let source = source_lane c.args.power c.args.block lane in
          write_more (λ k x. x ≡ value_at (state_in c.args.states.now source) k) (state_in c.loop-n.into lane) (state_in c.set.new.self lane) n
          (trit_in c.spread_value.result lane) (omega (arith, c.loop-n-test.true, c.len-n-end.ensures, is_state nodes c.loop-n.into lane before.room))
          (c.set.ensures.states lane) (λ k less. before.spread lane k low less)
          (c.spread_value.ensures lane (omega (arith, low)) ∙ c.get.ensures source) m lt;
    }

pub returns-clause-spread : goal.returns-clause-spread
returns-clause-spread c lane low =
    let kept = c.loop-n.invariant in
    let nodes = length c.args.states.now.zeros.items in
    let source = source_lane c.args.power c.args.block lane in
    let into = is_state nodes c.loop-n.into lane kept.room in
    let states = is_state nodes c.args.states.now source (record { zeros = refl; ones = c.requires.states }) in
    same_states (state_in c.loop-n.into lane) (state_in c.args.states.now source) (into ∙ sym states)
    (λ n lt. kept.spread lane n (omega (arith, low)) (omega (arith, lt, into, c.loop-n-test.false, c.len-n-end.ensures)))
