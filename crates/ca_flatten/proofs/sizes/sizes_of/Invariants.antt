use Rattle.std.proofs.Common.{◌≤◌}
use Rattle.ca_view.specs.Core.{core_of}
use Rattle.ca_flatten.proofs.SizeLemmas.{AreCounted}
use Rattle.ca_flatten.proofs.sizes.sizes_of.Given as goal

abbrev pub invariant-loop-u : goal.invariant-loop-u
invariant-loop-u l = record {
  counted : AreCounted (core_of l.chip) l.u l.inner l.devices;
  few_inner : l.inner ≤ 4294967295;
  few_devices : l.devices ≤ 4294967295;
}
