use Rattle.std.proofs.Common.{arith}
use Rattle.ca_every_vector.proofs.VectorLemmas.{row_count}
use Rattle.ca_every_vector.proofs.lane_tried.vector_count.Goals as goal

pub returns-clause-few : goal.returns-clause-few
returns-clause-few c =
    let few = c.linked.ensures.nets.few_pins c.args.u c.requires.known in
    let k = row_count c.inputs_at.result (let e = c.inputs_at.ensures in omega arith) in
    omega (arith, k.0, k.1)
