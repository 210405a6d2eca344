use Rattle.std.proofs.Common.{◌≤◌, length}
use Rattle.ca_linked.specs.Instances.{scans_of}
use Rattle.ca_chip_stil.specs.code.Kept.{ArePlacesFrom}
use Rattle.ca_chip_stil.proofs.chains.places_of.Given as goal

abbrev pub invariant-scans : goal.invariant-scans
invariant-scans l = record {
  within : l.left ≤ length (scans_of l.chip);
  are : ArePlacesFrom l.chip l.left l.places.items;
}

abbrev pub decreases-scans : goal.decreases-scans
decreases-scans l = l.left
