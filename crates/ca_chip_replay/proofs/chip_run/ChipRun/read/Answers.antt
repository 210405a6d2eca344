use Rattle.std.proofs.Common.{subst}
use Rattle.std.specs.Prelude.{IfOk}
use Rattle.std.specs.List.{All}
use Rattle.ca_flat.specs.Flat.{flat}
use Rattle.ca_flat.specs.Pair.{first_vector, last_vector}
use Rattle.ca_order.specs.Allowed.{IsAllowed, ReadsFor}
use Rattle.ca_chip_replay.specs.ChipRun.{RunOf}
use Rattle.ca_chip_replay.proofs.ReadyLemmas.{ready_reads, ready_allowed}
use Rattle.ca_chip_replay.proofs.chip_run.ChipRun.read.Goals as goal

pub returns-clause-exact : goal.returns-clause-exact
returns-clause-exact g c =
    subst (λ (run : RunOf). ReadsFor (flat run.chip run.given) (first_vector run.chip run.pair) (last_vector run.chip run.pair) c.args.bytes.now
    c.read_order_for.result) c.self.view_is
    (ready_reads _ _ _ _ _ c.self.invariant c.args.bytes.now c.read_order_for.result c.read_order_for.ensures.exact)

pub returns-clause-allowed : goal.returns-clause-allowed
returns-clause-allowed g c =
    subst (λ (run : RunOf). IfOk c.read_order_for.result
    (All (IsAllowed (flat run.chip run.given) (first_vector run.chip run.pair) (last_vector run.chip run.pair)))) c.self.view_is
    (ready_allowed _ _ _ _ _ c.self.invariant c.read_order_for.result c.read_order_for.ensures.allowed)
