use Rattle.std.proofs.Common.{◌≡◌, length, ◌+◌, ◌≤◌}
use Rattle.ca_spice.specs.PinInfo.{last_colon, colon_place}
use Rattle.ca_spice.proofs.pin_info.colon_place.Given as goal

abbrev pub invariant-bytes : goal.invariant-bytes
invariant-bytes l = (last_colon l.place l.found l.rest ≡ colon_place l.word) × (l.place + length l.rest ≡ length l.word) × (l.found ≤ length l.word)

abbrev pub decreases-bytes : goal.decreases-bytes
decreases-bytes l = length l.rest
