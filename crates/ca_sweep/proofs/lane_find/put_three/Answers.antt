use Rattle.ca_sweep.proofs.LaneFindLemmas.{three_are_put}
use Rattle.ca_sweep.proofs.lane_find.put_three.Goals as goal

pub returns : goal.returns
returns c = three_are_put c.args.u c.args.first c.args.second c.args.two c.args.seen.now.items c.requires.room
