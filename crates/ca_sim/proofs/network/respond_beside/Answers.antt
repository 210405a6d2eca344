use Rattle.ca_sim.proofs.network.respond_beside.Goals as goal

pub twin_outputs-requires-clause-twin : goal.twin_outputs-requires-clause-twin
twin_outputs-requires-clause-twin c = c.requires.twin c.in-Some.good c.in-Some.is
