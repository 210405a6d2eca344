use Rattle.std.proofs.Common.{◌∙◌, length, sym, refl, arith}
use Rattle.ca_planes.specs.Trits.{state_in}
use Rattle.ca_block.proofs.StateLemmas.{same_all, is_state}
use Rattle.ca_block.proofs.turns.is_same.Goals as goal

pub returns : goal.returns
returns c = (
  λ t lane low.
      let nodes = length c.args.state.now.zeros.items in
      let state = is_state nodes c.args.state.now lane (record { zeros = refl; ones = c.requires.state }) in
      let other = is_state nodes c.args.other.now lane c.requires.other in
      same_all (state_in c.args.state.now lane) (state_in c.args.other.now lane) (state ∙ sym other)
      (λ n lt. c.loop-n.invariant lane n (omega (arith, low)) (omega (arith, lt, state, c.loop-n-test.false, c.len-n-end.ensures))),
  λ all. refl,
)
