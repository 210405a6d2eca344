use Rattle.std.proofs.Common.{◌≡◌, ◌+◌, ◌++◌}
use Rattle.ca_cell.specs.Raw.{is_output}
use Rattle.ca_wiring.specs.Wiring.{names_with, open_count, output_wires}
use Rattle.ca_draft.proofs.OutputLemmas.{from, open_from}
use Rattle.ca_draft.proofs.pins.library_outputs.Given as goal

abbrev pub invariant-loop-k : goal.invariant-loop-k
invariant-loop-k l = record {
  wires : output_wires l.bits l.uses l.fn.own (names_with is_output l.pins) ≡ l.wires ++ from l.bits l.uses l.pins l.own l.k;
  next : l.fn.own + open_count l.uses (names_with is_output l.pins) ≡ l.own + open_from l.bits l.uses l.pins l.k;
}
