use Rattle.std.proofs.Common.{◌+◌, refl, sym, subst}
use Rattle.std.proofs.lemmas.Result.{on_ok_weaker}
use Rattle.ca_replay_tests.specs.code.Inputs.{AreInputs}
use Rattle.ca_replay_tests.proofs.InputLemmas.{input_listed, storage_passed}
use Rattle.ca_replay_tests.proofs.networks.list_input.Goals as goal

pub returns-in-Input : goal.returns-in-Input
returns-in-Input c =
    let net = c.args.net.now in
    on_ok_weaker c.push.result
    (λ listed. subst (AreInputs net (c.args.n + 1)) (sym listed)
    (input_listed net c.args.n c.args.inputs.now c.requires.before (record { 0 = c.args.n }) refl c.requires.node c.in-Input.ensures))
    c.push.ensures.ok

pub returns-in-Storage : goal.returns-in-Storage
returns-in-Storage c =
    storage_passed c.args.net.now c.args.n c.args.inputs.now c.requires.before c.in-Storage.field-0 c.in-Storage.ensures
