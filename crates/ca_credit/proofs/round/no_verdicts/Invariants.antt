use Rattle.std.proofs.Common.{◌≡◌, ◌≤◌, replicate}
use Rattle.std.specs.Prelude.{None, vec_capacity}
use Rattle.ca_credit.proofs.round.no_verdicts.Given as goal

abbrev pub invariant-loop : goal.invariant-loop
invariant-loop l = (l.verdicts.items ≡ replicate l.counter None) × (l.count ≤ vec_capacity l.verdicts)
