use Rattle.std.proofs.Common.{◌≡◌, ◌++◌, ℕ, List, map, drop}
use Rattle.ca_csv.specs.Streams.{HasWritten}
use Rattle.ca_csv.specs.Records.{written}
use Rattle.ca_chip_diag.specs.Texts.{record_at, candidates_text}
use Rattle.ca_chip_diag.proofs.write.write_candidates.Given as goal

abbrev pub invariant-loop-k : goal.invariant-loop-k
invariant-loop-k l = (text : List ℕ) × HasWritten l.writer text
    × (text ++ written (map (record_at l.chip l.defects) (drop l.k l.candidates))
    ≡ candidates_text l.chip l.defects l.candidates)
