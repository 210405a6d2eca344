use Rattle.std.proofs.Common.{List, map, sym, subst, arith}
use Rattle.std.specs.Prelude.{IfOk}
use Rattle.std.specs.List.{All}
use Rattle.ca_flat.specs.Flat.{flat}
use Rattle.ca_flat.specs.Pair.{first_vector, last_vector}
use Rattle.ca_net.specs.declared.node.NodeId.{NodeId}
use Rattle.ca_order.specs.Allowed.{meaning, IsAllowed}
use Rattle.ca_replay.specs.Replay.{CoverInputs, IsReplay}
use Rattle.ca_chip_replay.specs.ChipRun.{RunOf, AreReplayed}
use Rattle.ca_chip_replay.proofs.ReadyLemmas.{on_ok, ready_events, ready_covers, nets_fit, ready_replayed}
use Rattle.ca_chip_replay.proofs.chip_run.ChipRun.replay.Goals as goal

pub replay-requires-clause-inputs : goal.replay-requires-clause-inputs
replay-requires-clause-inputs g c =
    subst (CoverInputs c.self.inside.net c.self.inside.first c.self.inside.last) (sym c.deref.ensures.value)
    (ready_covers _ _ _ _ _ c.self.invariant)

pub replay-requires-clause-events : goal.replay-requires-clause-events
replay-requires-clause-events g c =
    ready_events _ _ _ _ _ c.self.invariant c.args.events.now
    (subst (λ (run : RunOf). All (IsAllowed (flat run.chip run.given) (first_vector run.chip run.pair) (last_vector run.chip run.pair)) c.args.events.now)
    (sym c.self.view_is) c.requires)

pub output_values-requires : goal.output_values-requires
output_values-requires g c =
    let fit = nets_fit _ _ _ _ _ c.self.invariant in
    let state = c.in_ok-end.ensures.state in
    omega (arith, fit, state)

pub returns : goal.returns
returns g c =
    subst (λ (run : RunOf). IfOk c.output_values.result (λ values. AreReplayed run (map meaning c.args.events.now) values.items)) c.self.view_is
    (on_ok c.output_values.result _ _
    (λ values are. ready_replayed _ _ _ _ _ c.self.invariant c.args.events.now c.in_ok-end.end values.items
    (subst (λ (l : List NodeId). IsReplay c.self.inside.net l c.self.inside.first c.self.inside.last (map meaning c.args.events.now) c.in_ok-end.end)
    c.deref.ensures.value c.in_ok-end.ensures.run) c.in_ok-end.ensures.pair are) c.output_values.ensures)
