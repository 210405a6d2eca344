use Rattle.std.proofs.Common.{arith}
use Rattle.std.proofs.lemmas.List.{ext_get_or}
use Rattle.ca_response.specs.Gives.{unknown_wave}
use Rattle.ca_sweep.proofs.faulty.same_waves.Goals as goal

pub returns : goal.returns
returns c true_is = ext_get_or unknown_wave c.args.a.now c.args.b.now (omega arith) (λ k lt. c.loop-place.invariant k (omega arith))
