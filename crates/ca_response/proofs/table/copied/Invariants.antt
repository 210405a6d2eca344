use Rattle.std.proofs.Common.{◌≡◌, take}
use Rattle.ca_response.proofs.table.copied.Given as goal

abbrev pub invariant-loop-wave : goal.invariant-loop-wave
invariant-loop-wave l = l.copy.items ≡ take l.wave-index l.wave-items
