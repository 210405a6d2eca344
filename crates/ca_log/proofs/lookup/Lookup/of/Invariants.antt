use Rattle.std.proofs.Common.{take}
use Rattle.ca_log.specs.code.Lookup.{IsLookup}
use Rattle.ca_log.proofs.lookup.Lookup.of.Given as goal

abbrev pub invariant-loop-output : goal.invariant-loop-output
invariant-loop-output l = IsLookup l.different l.firsts.items (take l.output l.names)
