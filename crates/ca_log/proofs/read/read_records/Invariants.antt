use Rattle.std.proofs.Common.{◌≡◌, ℕ, List}
use Rattle.ca_csv.specs.Streams.{HasLeft}
use Rattle.ca_log.specs.LogText.{records_from, log_with}
use Rattle.ca_log.proofs.read.read_records.Given as goal

abbrev pub invariant-loop-row : goal.invariant-loop-row
invariant-loop-row l = (records : List (List (List ℕ))) → HasLeft l.fn.reader records → (left : List (List (List ℕ))) × HasLeft l.reader left
    × (log_with l.lookup l.expected records ≡ records_from l.lookup l.expected l.row l.log left)
