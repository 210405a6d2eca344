use Rattle.std.proofs.Common.{arith}
use Rattle.ca_planes.proofs.BitLemmas.{in_except}
use Rattle.ca_planes.proofs.plane.except.Goals as goal

pub returns : goal.returns
returns c lane = in_except c.args.a c.args.b lane (omega arith) (omega arith)
