use Rattle.ca_bridging.proofs.CauseLemmas.{bridges_known}
use Rattle.ca_bridging.proofs.tests.bridge_tests.Goals as goal

pub judge-requires : goal.judge-requires
judge-requires g c = bridges_known c.args.chip.now c.args.u.0 c.in_ok-list.list c.in_ok-list.ensures

pub texts_of-requires-clause-known : goal.texts_of-requires-clause-known
texts_of-requires-clause-known g c = bridges_known c.args.chip.now c.args.u.0 c.in_ok-list.list c.in_ok-list.ensures
