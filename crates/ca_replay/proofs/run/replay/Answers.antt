use Rattle.std.proofs.Common.{map, sym, subst}
use Rattle.ca_net.specs.Event.{Run}
use Rattle.ca_order.specs.Allowed.{meaning}
use Rattle.ca_replay.specs.Replay.{settings}
use Rattle.ca_replay.proofs.SettingLemmas.{settings_run}
use Rattle.ca_replay.proofs.PairLemmas.{events_may_come, replay_is_pair_run_lem}
use Rattle.ca_replay.proofs.run.replay.Goals as goal

pub returns-clause-run : goal.returns-clause-run
returns-clause-run g c =
    let net = g.N.Network.circuit c.args.net.now in
    let inputs = c.args.inputs.now in
    let v2 = c.args.last.now in
    let changed = c.carry_out.new.at in
    record {
      start = c.in_ok-at.at;
      settled = c.settle_rounds.new.at;
      changed = changed;
      set = c.take_values.new.at;
      begins = c.in_ok-at.ensures;
      first_run = c.settle_rounds.ensures.run;
      change_run = c.carry_out.ensures.run;
      set_run = subst (Run net changed (settings v2 inputs changed)) (sym c.take_values.ensures.values)
          (settings_run net v2 inputs changed c.requires.inputs.are_inputs);
      last_run = c.settle_rounds-2.ensures.run;
    }

pub returns-clause-pair : goal.returns-clause-pair
returns-clause-pair g c =
    let net = g.N.Network.circuit c.args.net.now in
    let v1 = c.args.first.now in
    let v2 = c.args.last.now in
    let events = c.args.events.now in
    replay_is_pair_run_lem net c.args.inputs.now v1 v2 (map meaning events) c.settle_rounds-2.new.at c.requires.inputs
    (events_may_come net v1 v2 events c.requires.events) (returns-clause-run g c)
