use Rattle.ca_sweep.proofs.lane_goods.settle_lanes.Goals as goal

pub table_at-requires-clause-placed : goal.table_at-requires-clause-placed
table_at-requires-clause-placed c = (c.requires.order.only _ c.in-Some.w c.in-Some.is).0

pub settle_at-requires-clause-placed : goal.settle_at-requires-clause-placed
settle_at-requires-clause-placed c = (c.requires.order.only _ c.in-Some.w c.in-Some.is).0
