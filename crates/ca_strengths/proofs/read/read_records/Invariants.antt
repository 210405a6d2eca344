use Rattle.std.proofs.Common.{◌≡◌, ℕ, List}
use Rattle.ca_csv.specs.Streams.{HasLeft}
use Rattle.ca_strengths.specs.StrengthText.{ratios_from, strengths_with}
use Rattle.ca_strengths.proofs.read.read_records.Given as goal

abbrev pub invariant-loop-row : goal.invariant-loop-row
invariant-loop-row l = (records : List (List (List ℕ))) → HasLeft l.fn.reader records → (left : List (List (List ℕ))) × HasLeft l.reader left
    × (strengths_with records ≡ ratios_from l.row l.ratios left)
