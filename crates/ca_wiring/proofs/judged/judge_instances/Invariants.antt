use Rattle.ca_wiring.specs.code.Pins.{AreSoundFirst}
use Rattle.ca_wiring.proofs.judged.judge_instances.Given as goal

abbrev pub invariant-loop-u : goal.invariant-loop-u
invariant-loop-u l = AreSoundFirst l.u l.raw l.library l.scan
