use Rattle.std.proofs.Common.{◌≡◌, ◌-◌, ◌++◌, length}
use Rattle.ca_static.specs.code.StaticAt.{waves_to}
use Rattle.ca_static.proofs.statics.waves_to.Given as goal

abbrev pub invariant-loop-before : goal.invariant-loop-before
invariant-loop-before l = record {
  count : length l.waves.items ≡ l.before;
  waves : l.waves.items ++ waves_to (l.inputs - l.before) l.number ≡ waves_to l.inputs l.number;
}
