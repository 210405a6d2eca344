use Rattle.std.proofs.Common.{◌≡◌, take}
use Rattle.ca_on_cell.proofs.OutputLemmas.{reported_values}
use Rattle.ca_on_cell.proofs.outputs.values_of.Given as goal

abbrev pub invariant-loop-place : goal.invariant-loop-place
invariant-loop-place g l = l.values ≡ reported_values (take l.place l.pins) l.waves.items
