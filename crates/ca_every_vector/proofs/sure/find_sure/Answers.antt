use Rattle.ca_every_vector.proofs.sure.find_sure.Goals as goal

pub pass-requires-clause-placed : goal.pass-requires-clause-placed
pass-requires-clause-placed c = (c.requires.order.only _ c.in-Some.w c.in-Some.is).0
