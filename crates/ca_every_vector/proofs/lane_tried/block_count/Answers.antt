use Rattle.std.proofs.Common.{◌%◌, ◌-◌, ◌*◌, ◌^◌, arith}
use Rattle.ca_every_vector.proofs.VectorLemmas.{row_count, vector_count}
use Rattle.ca_every_vector.proofs.LaneTriedLemmas.{blocks_enough}
use Rattle.ca_every_vector.proofs.lane_tried.block_count.Goals as goal

pub returns-then-inputs-lt6-clause-enough : goal.returns-then-inputs-lt6-clause-enough
returns-then-inputs-lt6-clause-enough c = let k = row_count c.args.inputs (omega arith) in omega (arith, k.1)

pub returns-clause-enough : goal.returns-clause-enough
returns-clause-enough c =
    let past = c.if-inputs-lt6.false in
    let few = c.requires in
    let k = vector_count (c.args.inputs - 6) (omega (arith, c.requires)) in
    blocks_enough c.args.inputs (1 * 2 ^ (c.args.inputs - 6) % 2 ^ 64) (omega arith) k.0
