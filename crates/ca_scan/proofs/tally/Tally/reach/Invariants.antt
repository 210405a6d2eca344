use Rattle.std.proofs.Common.{◌≡◌, ℕ, length, ◌+◌, ◌-◌}
use Rattle.ca_scan.specs.code.Kept.{tally_at}
use Rattle.ca_scan.proofs.tally.Tally.reach.Given as goal

abbrev pub invariant-room : goal.invariant-room
invariant-room l = (n : ℕ) → tally_at l.self-inside.counts.items n ≡ tally_at l.fn.self n

abbrev pub decreases-room : goal.decreases-room
decreases-room l = l.number + 1 - length l.self-inside.counts.items
