use Rattle.std.proofs.lemmas.Nat.{le_or_l}
use Rattle.ca_planes.proofs.BitLemmas.{in_either}
use Rattle.ca_planes.proofs.plane.either.Goals as goal

pub returns-clause-lanes : goal.returns-clause-lanes
returns-clause-lanes c lane = in_either c.args.a c.args.b lane

pub returns-clause-more : goal.returns-clause-more
returns-clause-more c = le_or_l c.args.a c.args.b
