use Rattle.std.proofs.Common.{ℕ, ◌≡◌, ◌<◌, ◌≤◌, ◌-◌, length}
use Rattle.ca_places.specs.PlaceSet.{Has}
use Rattle.ca_sweep.specs.Found.{IsUndetectedAt}
use Rattle.ca_sweep.proofs.finder.Finder.next_in.Given as goal

abbrev pub invariant-places : goal.invariant-places
invariant-places g l = record {
  kept : l.self ≡ l.fn.self;
  onward : l.from ≤ l.at;
  none : (place : ℕ) → l.from ≤ place → place < l.at → Has l.places place
      → IsUndetectedAt l.fn.self.chip l.defects.list (g.V.NetWaves.seen l.waves).pair place;
}

abbrev pub decreases-places : goal.decreases-places
decreases-places g l = length l.defects.list - l.at
