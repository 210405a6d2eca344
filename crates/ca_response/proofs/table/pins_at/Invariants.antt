use Rattle.ca_response.proofs.TableLemmas.{IsDecodedTo}
use Rattle.ca_response.proofs.table.pins_at.Given as goal

abbrev pub invariant-loop-pin : goal.invariant-loop-pin
invariant-loop-pin l = IsDecodedTo l.inputs l.place l._pin l.rest l.pins.items
