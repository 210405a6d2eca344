use Rattle.std.proofs.Common.{◌-◌, ◌++◌, ◌≡◌, [], refl, sym, ◌∙◌, subst, append-nil, arith}
use Rattle.std.specs.List.{All}
use Rattle.ca_net.specs.Wave.{IsWave}
use Rattle.ca_static.specs.code.StaticAt.{waves_to}
use Rattle.ca_static.proofs.WaveLemmas.{wave_pushed, waves_to_are_waves}
use Rattle.ca_static.proofs.statics.waves_to.Goals as goal

pub loop-before-preserved : goal.loop-before-preserved
loop-before-preserved c = record {
  count = omega (arith, c.push.ensures.len, c.loop-before.invariant.count);
  waves = wave_pushed c.args.inputs c.loop-before.before (c.args.inputs - 1 - c.loop-before.before) c.args.number c.pair.result
      c.loop-before.waves.items c.push.new.self.items _ c.loop-before-test.true refl (c.pair.ensures ∙ rw c.digit.ensures refl)
      c.loop-before.invariant.waves c.push.ensures.items;
}

pub returns-clause-waves : goal.returns-clause-waves
returns-clause-waves c =
    let none : c.args.inputs - c.loop-before.before ≡ 0 = omega arith in
    let all : c.loop-before.waves.items ++ [] ≡ waves_to c.args.inputs c.args.number =
    subst (λ count. c.loop-before.waves.items ++ waves_to count c.args.number ≡ waves_to c.args.inputs c.args.number) none c.loop-before.invariant.waves in
    subst (All IsWave) (sym all ∙ append-nil c.loop-before.waves.items) (waves_to_are_waves c.args.inputs c.args.number)
