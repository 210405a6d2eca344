use Rattle.std.proofs.Common.{◌<◌, ℕ, length}
use Rattle.ca_relax.specs.code.Links.{HasOneLabel}
use Rattle.ca_block.specs.Groups.{AreWithin}
use Rattle.ca_block.proofs.groups.label.Given as goal

abbrev pub invariant-loop-i : goal.invariant-loop-i
invariant-loop-i g l = record {
  within : AreWithin (length (g.N.Network.circuit l.net).nodes) (length (g.N.Network.circuit l.net).nodes) l.labels;
  one : (k : ℕ) → k < l.i → HasOneLabel (g.N.Network.circuit l.net) l.labels k;
}
