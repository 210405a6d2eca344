-- A law of logs. It is the contract of a public function that does nothing (src/laws.rt).
use Rattle.std.specs.Prelude.{ℕ, Bool, List}
use Rattle.ca_net.specs.declared.trit.Trit.{Trit}
use Rattle.ca_linked.specs.Linked.{LinkedChip}
use Rattle.ca_outputs.specs.Outputs.{output_names}
use Rattle.ca_chip_stil.specs.ChipStil.{AreOfChip}
use Rattle.ca_log.specs.declared.record.LogRecord.{LogRecord}
use Rattle.ca_log.specs.LogText.{IsLog}
use Rattle.ca_chip_diag.specs.Diagnosed.{CanBeDiagnosed}

-- pairs and expected values of a chip, and a log that was read for them, are what a diagnosis asks for
abbrev pub LoggedCanBeDiagnosed : Type 0
LoggedCanBeDiagnosed =
    (chip : LinkedChip) (chains : List (List ℕ)) (pairs : List (List Bool)) (expected : List (List Trit))
    (log : List LogRecord) → AreOfChip chip chains pairs expected → IsLog (output_names chip) expected log
    → CanBeDiagnosed chip pairs log
