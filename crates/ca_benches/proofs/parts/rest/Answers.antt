use Rattle.ca_benches.proofs.ListLemmas.{map_same}
use Rattle.ca_benches.proofs.parts.rest.Goals as goal

pub returns-clause-tasks : goal.returns-clause-tasks
returns-clause-tasks g c =
    map_same g.B.Simulator.task c.args.parts.now.items c.args.part c.index_mut.result.now c.aim_at_none.new.self c.index_mut.ensures.value c.aim_at_none.ensures.task

pub returns-clause-bits : goal.returns-clause-bits
returns-clause-bits g c =
    map_same g.B.Simulator.bits c.args.parts.now.items c.args.part c.index_mut.result.now c.aim_at_none.new.self c.index_mut.ensures.value c.aim_at_none.ensures.bits
