use Rattle.std.proofs.Common.{refl, arith}
use Rattle.std.proofs.lemmas.List.{ext_get_or}
use Rattle.ca_net.specs.declared.trit.Trit.TheVariants.{X}
use Rattle.ca_replay.proofs.values.is_same.Goals as goal

pub returns : goal.returns
returns c = (
  λ reported. ext_get_or X c.args.state.now c.args.other.now c.requires
      (λ n lt. c.loop-n.invariant n (omega (arith, c.len-n-end.ensures))),
  λ same. refl,
)
