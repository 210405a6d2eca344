use Rattle.std.proofs.Common.{◌≡◌, length, sym, ◌∙◌, ap, subst, arith}
use Rattle.ca_net.specs.declared.wave.Wave.{Wave}
use Rattle.ca_response.specs.Gives.{wave_at}
use Rattle.ca_simulate.specs.code.Lasts.{HaveLasts}
use Rattle.ca_simulate.proofs.EndLemmas.{no_lasts, lasts_more}
use Rattle.ca_simulate.proofs.simulation.last_values.Goals as goal

pub loop-o-init : goal.loop-o-init
loop-o-init g c =
    let outputs = c.args.view.now.core.outputs in
    let seen = g.N.NetWaves.seen c.args.sim.now in
    record {
      good = subst (HaveLasts outputs seen.good 0) (sym c.new-good.ensures.items) (no_lasts outputs seen.good);
      faulty = subst (HaveLasts outputs seen.faulty 0) (sym c.new-faulty.ensures.items) (no_lasts outputs seen.faulty);
    }

pub loop-o-preserved : goal.loop-o-preserved
loop-o-preserved g c =
    let outputs = c.args.view.now.core.outputs in
    let seen = g.N.NetWaves.seen c.args.sim.now in
    record {
      good = lasts_more outputs seen.good c.loop-o.o c.loop-o.good.items c.push.new.self.items c.good.result.last c.loop-o.invariant.good
          (ap (λ (wave : Wave). wave.last) (c.good.ensures ∙ ap (wave_at seen.good) c.output-net.ensures.net)) (c.in_ok-push.ensures {u = tt}).items;
      faulty = lasts_more outputs seen.faulty c.loop-o.o c.loop-o.faulty.items c.push-in-loop-o.new.self.items c.faulty.result.last
          c.loop-o.invariant.faulty
          (ap (λ (wave : Wave). wave.last) (c.faulty.ensures ∙ ap (wave_at seen.faulty) c.output-net.ensures.net)) (c.in_ok-push-2.ensures {u = tt}).items;
    }

pub returns : goal.returns
returns g c =
    let outputs = c.args.view.now.core.outputs in
    let seen = g.N.NetWaves.seen c.args.sim.now in
    let count : c.loop-o.o ≡ length outputs =
    let end = c.output_count-o-end.ensures in
    let low = c.loop-o.auto.o-end in
    let high = c.loop-o-test.false in
    omega (arith, end, low, high) in
    record {
      good = subst (λ n. HaveLasts outputs seen.good n c.loop-o.good.items) count c.loop-o.invariant.good;
      faulty = subst (λ n. HaveLasts outputs seen.faulty n c.loop-o.faulty.items) count c.loop-o.invariant.faulty;
    }
