-- What the diagnosis of a linked chip asks for.
use Rattle.std.specs.Prelude.{◌^◌, ◌≡◌, ◌<◌, Bool, List, length}
use Rattle.std.specs.List.{All}
use Rattle.ca_flat.specs.Pair.{bit_count}
use Rattle.ca_linked.specs.Linked.{LinkedChip}
use Rattle.ca_view.specs.Core.{core_of}
use Rattle.ca_log.specs.declared.record.LogRecord.{LogRecord}
use Rattle.ca_diag.specs.Candidates.{AreLoggedWithin}

-- each pair has the chip's pattern bits, and each record is of a listed pair and an observed output
pub record CanBeDiagnosed (chip : LinkedChip) (pairs : List (List Bool)) (log : List LogRecord) : Type 0 where
  pub bits : All (λ pair. length pair ≡ bit_count (core_of chip)) pairs
  pub places : AreLoggedWithin (length pairs) (length (core_of chip).outputs) log
  pub few : length log < 2 ^ 32
