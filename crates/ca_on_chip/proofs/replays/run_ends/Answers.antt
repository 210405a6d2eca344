use Rattle.std.proofs.Common.{List, ℕ, subst}
use Rattle.ca_view.specs.Core.{core_of}
use Rattle.ca_chip_replay.specs.ChipRun.{RunOf}
use Rattle.ca_simulate.specs.Simulated.{pair_of}
use Rattle.ca_simulate.specs.OneRun.{IsFaultyLine}
use Rattle.ca_simulate.specs.code.OneRun.{IsRunFault}
use Rattle.ca_on_chip.proofs.ReplayLemmas.{at_line}
use Rattle.ca_on_chip.proofs.replays.run_ends.Goals as goal

pub returns-in-Err-At-clause-cause : goal.returns-in-Err-At-clause-cause
returns-in-Err-At-clause-cause g c =
    let chip = c.args.chip.now in
    let request = c.args.request.now in
    let vectors = c.in_ok-vectors.vectors in
    let are = c.in_ok-vectors.ensures in
    let given = c.in_ok-given.given in
    let run : RunOf = record { chip = core_of chip; given = given; pair = pair_of vectors.first.now vectors.last.now } in
    let faulty : IsFaultyLine run c.in-Err-At.line c.as_bytes.result.now =
    subst (IsRunFault run c.as_bytes.result.now) c.in-Err-At.field-0-is (c.in-Err-At.ensures).cause in
    at_line chip request.of.of.instance.now request.of.of.defect.now request.of.first.now request.of.last.now request.order.now
    (g.S.Store.files c.args.store.now) given are.first_fits are.last_fits (c.in_ok-given.ensures).asked c.in_ok-bytes.bytes
    vectors.first.now vectors.last.now are.first are.last (c.in_ok-bytes.ensures).ok
    (g.S.Store.faults c.args.store.now) (g.S.Store.faults c.read_input.new.store) c.in-Err-At.line
    (subst (IsFaultyLine run c.in-Err-At.line) c.as_bytes.ensures faulty)
