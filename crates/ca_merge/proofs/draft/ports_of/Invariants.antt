use Rattle.std.proofs.Common.{◌≡◌, take}
use Rattle.ca_merge.proofs.draft.ports_of.Given as goal

abbrev pub invariant-loop-p : goal.invariant-loop-p
invariant-loop-p l = l.ports.items ≡ take l.p l.chip.ports
