use Rattle.std.proofs.Common.{◌∙◌, length, arith}
use Rattle.ca_planes.specs.Trits.{state_in}
use Rattle.ca_block.proofs.StateLemmas.{unknown_all, is_state}
use Rattle.ca_block.proofs.start.forget.Goals as goal

pub returns-clause-unknown : goal.returns-clause-unknown
returns-clause-unknown c lane low =
    let kept = c.loop-n.invariant in
    let nodes = length c.args.state.now.zeros.items in
    unknown_all (state_in c.loop-n.state lane) (λ n lt.
    kept.unknown lane n (omega (arith, low)) (omega (
      arith,
      lt,
      c.loop-n-test.false,
      c.len-n-end.ensures,
      is_state nodes c.loop-n.state lane (record { zeros = kept.zeros; ones = kept.ones ∙ c.requires }),
    )))
