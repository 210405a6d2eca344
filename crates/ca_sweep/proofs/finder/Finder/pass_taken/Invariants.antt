use Rattle.std.proofs.Common.{ℕ, ◌≡◌, ◌<◌, ◌≤◌, ◌-◌}
use Rattle.ca_places.specs.PlaceSet.{Has}
use Rattle.ca_sweep.specs.Found.{IsUndetectedAt}
use Rattle.ca_sweep.proofs.finder.Finder.pass_taken.Given as goal

abbrev pub invariant-places : goal.invariant-places
invariant-places g l = record {
  kept : l.self ≡ l.fn.self;
  onward : l.place ≤ l.at;
  none : (k : ℕ) → l.place ≤ k → k < l.at → Has l.places k → IsUndetectedAt l.fn.self.chip l.defects.list (g.V.NetWaves.seen l.waves).pair k;
}

abbrev pub decreases-places : goal.decreases-places
decreases-places g l = l.span.end - l.at
