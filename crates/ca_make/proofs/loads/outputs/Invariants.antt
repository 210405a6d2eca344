use Rattle.std.proofs.Common.{◌≡◌, ◌≤◌, ◌+◌, not, length}
use Rattle.std.specs.List.{filter, range_with_len}
use Rattle.ca_make.specs.declared.gate.TheConstants.{INPUTS}
use Rattle.ca_make.specs.Chip.{is_loaded}
use Rattle.ca_make.proofs.loads.outputs.Given as goal

abbrev pub invariant-loop-k : goal.invariant-loop-k
invariant-loop-k l =
    (l.outputs ≡ filter (λ k. not (is_loaded l.gates (INPUTS + k))) (range_with_len 0 l.k)) × (length l.outputs ≤ l.k)
