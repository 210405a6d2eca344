use Rattle.std.proofs.Common.{◌≡◌, map}
use Rattle.std.specs.Prelude.{take}
use Rattle.ca_draft.specs.code.OnWires.{number_of}
use Rattle.ca_draft.proofs.renumber.number_list.Given as goal

abbrev pub invariant-loop-k : goal.invariant-loop-k
invariant-loop-k l = l.nets ≡ map (number_of l.table.numbers) (take l.k l.wires)
