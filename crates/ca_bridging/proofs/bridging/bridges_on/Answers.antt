use Rattle.ca_bridging.proofs.CauseLemmas.{named_library}
use Rattle.ca_bridging.proofs.bridging.bridges_on.Goals as goal

pub bridge_tests-requires-clause-library : goal.bridge_tests-requires-clause-library
bridge_tests-requires-clause-library g c =
    named_library c.args.chip.now c.args.instance.now c.in_ok-u.u.0 c.in_ok-u.ensures.named

pub returns-clause-judged : goal.returns-clause-judged
returns-clause-judged g c = record {
  u = c.in_ok-u.u.0;
  named = c.in_ok-u.ensures.named;
  bridges_are = c.in_ok-made.ensures.bridges;
  good = c.in_ok-made.ensures.good;
}
