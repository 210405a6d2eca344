use Rattle.ca_bridges.specs.code.Numbers.{IsPutUpTo}
use Rattle.ca_bridges.proofs.put.put_verdicts.Given as goal

abbrev pub invariant-loop-place : goal.invariant-loop-place
invariant-loop-place l = IsPutUpTo l.targets l.numbers l.given l.words l.before l.place
