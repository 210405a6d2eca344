use Rattle.std.proofs.Common.{◌≡◌, ◌≤◌, take}
use Rattle.ca_pin_sets.specs.Resolved.{places_from}
use Rattle.ca_pin_sets.proofs.FoldLemmas.{kept_count}
use Rattle.ca_pin_sets.proofs.resolving.places_of.Given as goal

abbrev pub invariant-loop-place : goal.invariant-loop-place
invariant-loop-place l =
    (l.places.items ≡ places_from 0 0 (take l.place l.homes)) × (l.before ≡ kept_count 0 (take l.place l.homes)) × (l.before ≤ l.place)
