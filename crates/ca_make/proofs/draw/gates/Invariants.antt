use Rattle.std.proofs.Common.{◌≡◌, ◌++◌, ◌+◌, ◌-◌, length}
use Rattle.std.specs.List.{All}
use Rattle.ca_make.specs.declared.gate.TheConstants.{INPUTS}
use Rattle.ca_make.specs.Draw.{gates_from}
use Rattle.ca_make.specs.code.Chip.{IsWithin}
use Rattle.ca_make.proofs.draw.gates.Given as goal

-- the gates so far, and those that are still drawn, are those of the chip
abbrev pub invariant-loop-k : goal.invariant-loop-k
invariant-loop-k l =
    (l.gates ++ gates_from l.draws.state (INPUTS + l.k) (l.n - l.k) ≡ gates_from l.n INPUTS l.n)
    × (length l.gates ≡ l.k) × All (IsWithin (INPUTS + l.n)) l.gates
