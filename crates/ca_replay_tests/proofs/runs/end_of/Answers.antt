use Rattle.std.proofs.Common.{sym, subst}
use Rattle.ca_replay.specs.Replay.{CoverInputs}
use Rattle.ca_replay_tests.proofs.runs.end_of.Goals as goal

pub replay-requires-clause-inputs : goal.replay-requires-clause-inputs
replay-requires-clause-inputs c =
    let v1 = c.args.first.now in
    let v2 = c.args.last.now in
    subst (CoverInputs c.args.net.now v1 v2) (sym c.as_slice.ensures) (c.in_ok-inputs.ensures v1 v2)
