use Rattle.std.proofs.Common.{◌<◌, ◌∙◌, length, sym, ap, subst, arith, IsTrue}
use Rattle.ca_net.specs.Response.{AreResponses}
use Rattle.ca_planes.specs.Trits.{state_in, HasNodes}
use Rattle.ca_settle.proofs.TurnLemmas.{Rises, rises_turn}
use Rattle.ca_block.proofs.StateLemmas.{rises_begin, rises_end, is_state}
use Rattle.ca_block.proofs.MeasureLemmas.{rises_smaller}
use Rattle.ca_block.proofs.turns.rise.Goals as goal

pub rising-init : goal.rising-init
rising-init g c =
    let net = g.N.Network.circuit c.args.net.now in
    record {
      at = c.requires.at;
      next = c.requires.next;
      spare = c.requires.spare;
      touched = c.requires.touched;
      levels = c.requires.levels;
      rises = λ lane low. rises_begin net (state_in c.args.at.now lane) (is_state (length net.nodes) c.args.at.now lane c.requires.at) (c.requires.held lane (omega (arith, low)));
      responses = λ lane low. c.requires.responses lane (omega (arith, low));
    }

pub rising-smaller : goal.rising-smaller
rising-smaller g c =
    rises_smaller (g.N.Network.circuit c.args.net.now) c.requires.well_formed (λ k. state_in c.args.at.now k) (λ k. state_in c.rising.at k) (λ k. state_in c.rising.next k)
    (λ k. state_in c.swap.new.x k) (λ k. ap (λ b. state_in b k) c.swap.ensures.x_after) c.rising.invariant.rises c.rising.invariant.responses
    (λ same. let reported : IsTrue c.is_same.result = c.is_same.ensures.1 (λ lane low. same lane (omega (arith, low))) in let not = c.rising-test.true in cc)

pub rising-preserved : goal.rising-preserved
rising-preserved g c =
    let net = g.N.Network.circuit c.args.net.now in
    let before = c.rising.invariant in
    record {
      at = subst (HasNodes (length net.nodes)) (sym c.swap.ensures.x_after) before.next;
      next = subst (HasNodes (length net.nodes)) (sym c.swap-in-rising.ensures.x_after) c.respond_again.ensures.out;
      spare = subst (HasNodes (length net.nodes)) (sym (c.swap-in-rising.ensures.y_after ∙ c.swap.ensures.y_after)) before.at;
      touched = c.respond_again.ensures.touched;
      levels = c.respond_again.ensures.levels;
      rises = λ lane low.
          subst (λ b. Rises net (state_in c.args.at.now lane) (state_in b lane)) (sym c.swap.ensures.x_after)
          (rises_turn net c.requires.well_formed (state_in c.args.at.now lane) (state_in c.rising.at lane) (state_in c.rising.next lane) (before.rises lane low) (before.responses lane low));
      responses = λ lane low.
          subst (λ b. AreResponses net (state_in b lane) (state_in c.swap-in-rising.new.x lane)) (sym c.swap.ensures.x_after)
          (subst (λ b. AreResponses net (state_in c.rising.next lane) (state_in b lane)) (sym c.swap-in-rising.ensures.x_after)
          (c.respond_again.ensures.responses lane (omega (arith, low))));
    }

pub returns-clause-risen : goal.returns-clause-risen
returns-clause-risen g c lane low =
    let same : IsTrue c.is_same.result = c.rising-test.false in
    let under : lane < 64 = omega (arith, low) in
    rises_end (g.N.Network.circuit c.args.net.now) (state_in c.args.at.now lane) (state_in c.rising.at lane) (state_in c.rising.next lane)
    (c.rising.invariant.rises lane under) (c.rising.invariant.responses lane under) (c.is_same.ensures.0 same lane low)
