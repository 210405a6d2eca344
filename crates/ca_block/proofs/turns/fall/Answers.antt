use Rattle.std.proofs.Common.{◌<◌, ℕ, length, sym, ap, subst, arith, IsTrue}
use Rattle.ca_net.specs.Response.{AreResponses}
use Rattle.ca_planes.specs.Trits.{state_in, HasNodes}
use Rattle.ca_settle.proofs.TurnLemmas.{Falls, falls_turn, falls_end}
use Rattle.ca_block.proofs.StateLemmas.{falls_begin, is_state, blurred_of}
use Rattle.ca_block.proofs.MeasureLemmas.{falls_smaller}
use Rattle.ca_block.proofs.turns.fall.Goals as goal

pub falling-init : goal.falling-init
falling-init g c =
    let net = g.N.Network.circuit c.args.net.now in
    let room = subst (λ k. HasNodes k c.meet.new.into) c.requires.known.zeros c.meet.ensures.room in
    record {
      at = c.requires.at;
      next = room;
      known = c.requires.known;
      spare = c.requires.spare;
      touched = c.requires.touched;
      levels = c.requires.levels;
      falls = λ lane low. falls_begin net (state_in c.args.at.now lane) (is_state (length net.nodes) c.args.at.now lane c.requires.at);
      responses = λ lane low. c.requires.responses lane (omega (arith, low));
      blurred = λ lane low.
          blurred_of net (state_in c.args.at.now lane) (state_in c.args.known.now lane) (state_in c.meet.new.into lane) (is_state (length net.nodes) c.meet.new.into lane room)
          (c.requires.responses lane (omega (arith, low))) (c.meet.ensures.meets lane (omega (arith, low)));
    }

pub falling-smaller : goal.falling-smaller
falling-smaller g c =
    falls_smaller (g.N.Network.circuit c.args.net.now) c.requires.well_formed (λ k. state_in c.args.at.now k) (λ k. state_in c.falling.at k) (λ k. state_in c.falling.next k)
    (λ k. state_in c.swap.new.x k) (λ k. ap (λ b. state_in b k) c.swap.ensures.x_after) c.falling.invariant.falls c.falling.invariant.blurred
    (λ same. let reported : IsTrue c.is_same.result = c.is_same.ensures.1 (λ lane low. same lane (omega (arith, low))) in let not = c.falling-test.true in cc)

pub falling-preserved : goal.falling-preserved
falling-preserved g c =
    let net = g.N.Network.circuit c.args.net.now in
    let before = c.falling.invariant in
    let known = subst (HasNodes (length net.nodes)) (sym c.swap-in-falling.ensures.x_after) c.respond_again.ensures.out in
    let room = subst (λ k. HasNodes k c.meet-in-falling.new.into) known.zeros c.meet-in-falling.ensures.room in
    let responds = λ (lane : ℕ) (low : lane < 64).
    subst (λ b. AreResponses net (state_in b lane) (state_in c.swap-in-falling.new.x lane)) (sym c.swap.ensures.x_after)
    (subst (λ b. AreResponses net (state_in c.falling.next lane) (state_in b lane)) (sym c.swap-in-falling.ensures.x_after)
    (c.respond_again.ensures.responses lane (omega (arith, low)))) in
    record {
      at = subst (HasNodes (length net.nodes)) (sym c.swap.ensures.x_after) before.next;
      next = room;
      known = known;
      spare = subst (HasNodes (length net.nodes)) (sym c.swap-in-falling.ensures.y_after) before.known;
      touched = c.respond_again.ensures.touched;
      levels = c.respond_again.ensures.levels;
      falls = λ lane low.
          subst (λ b. Falls net (state_in c.args.at.now lane) (state_in b lane)) (sym c.swap.ensures.x_after)
          (falls_turn net c.requires.well_formed (state_in c.args.at.now lane) (state_in c.falling.at lane) (state_in c.falling.next lane) (before.falls lane low) (before.blurred lane low));
      responses = responds;
      blurred = λ lane low.
          blurred_of net (state_in c.swap.new.x lane) (state_in c.swap-in-falling.new.x lane) (state_in c.meet-in-falling.new.into lane)
          (is_state (length net.nodes) c.meet-in-falling.new.into lane room) (responds lane low) (c.meet-in-falling.ensures.meets lane (omega (arith, low)));
    }

pub returns-clause-fallen : goal.returns-clause-fallen
returns-clause-fallen g c lane low =
    let same : IsTrue c.is_same.result = c.falling-test.false in
    let under : lane < 64 = omega (arith, low) in
    falls_end (g.N.Network.circuit c.args.net.now) c.requires.well_formed (state_in c.args.at.now lane) (state_in c.falling.at lane) (state_in c.falling.next lane)
    (c.falling.invariant.falls lane under) (c.falling.invariant.blurred lane under) (c.is_same.ensures.0 same lane low)
