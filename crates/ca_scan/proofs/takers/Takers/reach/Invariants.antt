use Rattle.std.proofs.Common.{◌≡◌, ℕ, length, ◌+◌, ◌-◌}
use Rattle.ca_scan.specs.code.Kept.{taker_at}
use Rattle.ca_scan.proofs.takers.Takers.reach.Given as goal

abbrev pub invariant-room : goal.invariant-room
invariant-room l = (n : ℕ) → taker_at l.self-inside.takers.items n ≡ taker_at l.fn.self n

abbrev pub decreases-room : goal.decreases-room
decreases-room l = l.net + 1 - length l.self-inside.takers.items
