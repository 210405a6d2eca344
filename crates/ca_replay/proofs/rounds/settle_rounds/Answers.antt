use Rattle.std.proofs.Common.{◌≡◌, ◌+◌, ◌-◌, length, ◌∙◌, ap, refl, sym, subst, arith}
use Rattle.ca_net.specs.State.{IsState}
use Rattle.ca_net.specs.Event.{Step, Settle}
use Rattle.ca_replay.specs.Replay.{all_nodes}
use Rattle.ca_replay.proofs.RoundLemmas.{round_step, round_before, no_round, rounds_stay}
use Rattle.ca_replay.proofs.rounds.settle_rounds.Goals as goal

pub returns-then-is_same-clause-run : goal.returns-then-is_same-clause-run
returns-then-is_same-clause-run g c =
    let net = g.N.Network.circuit c.args.net.now in
    let at = c.loop-round.at in
    let same : at ≡ c.response.new.out = c.if-is_same.ensures.0 refl in
    let is_state : IsState net at = c.loop-round.invariant.at ∙ c.requires.at in
    let step = round_step net at c.response.new.out is_state c.response.ensures.responses in
    c.loop-round.invariant.run at
    (rounds_stay net (length net.nodes - c.loop-round.round) at
    (subst (λ t. Step net at (Settle (all_nodes net)) t) (sym same) step))

pub loop-round-preserved : goal.loop-round-preserved
loop-round-preserved g c =
    let net = g.N.Network.circuit c.args.net.now in
    let at = c.loop-round.at in
    let is_state : IsState net at = c.loop-round.invariant.at ∙ c.requires.at in
    let step = round_step net at c.response.new.out is_state c.response.ensures.responses in
    record {
      at = ap length c.swap.ensures.x_after ∙ (c.response.ensures.responses.is_state ∙ sym c.requires.at);
      next = ap length c.swap.ensures.y_after ∙ (is_state ∙ sym c.requires.next);
      scratch = c.response.ensures.kept ∙ c.loop-round.invariant.scratch;
      run = λ t run. c.loop-round.invariant.run t
          (round_before net (length net.nodes - (c.loop-round.round + 1)) (length net.nodes - c.loop-round.round) at c.swap.new.x t
          (omega (arith, c.node_count-round-end.ensures.count))
          (subst (λ mid. Step net at (Settle (all_nodes net)) mid) (sym c.swap.ensures.x_after) step) run);
    }

pub returns-clause-run : goal.returns-clause-run
returns-clause-run g c =
    let net = g.N.Network.circuit c.args.net.now in
    c.loop-round.invariant.run c.loop-round.at
    (no_round net (length net.nodes - c.loop-round.round) c.loop-round.at (omega (arith, c.node_count-round-end.ensures.count)))
