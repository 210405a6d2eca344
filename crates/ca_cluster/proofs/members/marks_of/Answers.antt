use Rattle.ca_cluster.proofs.members.marks_of.Goals as goal

pub returns : goal.returns
returns c = record {
  room = (c.in_ok-at.ensures {u = tt}).room;
  seeds = (c.in_ok-at.ensures {u = tt}).seeds;
  after = c.in_ok-after.ensures {u = tt};
  before = c.in_ok-before.ensures {u = tt};
}
