use Rattle.std.proofs.Common.{◌≡◌, take}
use Rattle.ca_bridges.proofs.parts.copied.Given as goal

abbrev pub invariant-loop-place : goal.invariant-loop-place
invariant-loop-place l = l.copy ≡ take l.place l.shorts
