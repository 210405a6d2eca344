use Rattle.std.proofs.Common.{map}
use Rattle.ca_cell.specs.Raw.{circuit_of}
use Rattle.ca_settle.specs.Settled.{IsRoomFor}
use Rattle.ca_static.proofs.TableLemmas.{IsFilledTo}
use Rattle.ca_static.proofs.last_table.LastTable.of_static.Given as goal

abbrev pub invariant-loop-number : goal.invariant-loop-number
invariant-loop-number l = record {
  filled : IsFilledTo l.cell l.number (map (λ entry. entry.items) l.entries.items);
  room : IsRoomFor (circuit_of l.cell) l.work;
}
