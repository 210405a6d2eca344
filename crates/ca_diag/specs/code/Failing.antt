-- The outputs that were logged, pair by pair.
use Rattle.std.specs.Prelude.{ℕ, ◌≡◌, ◌<◌, ◌↔◌, ◌==◌, Bool, true, false, List, [], ◌∷◌, length}
use Rattle.std.specs.Prelude.{slice_index_or, if◌then◌else◌}
use Rattle.std.specs.List.{Contains}
use Rattle.ca_log.specs.declared.record.LogRecord.{LogRecord}

-- the outputs that were logged for a pair, in order
abbrev pub outputs_at : ℕ → List LogRecord → List ℕ
outputs_at pair [] = []
outputs_at pair (here ∷ log) =
    if here.pair == pair then here.output ∷ outputs_at pair log else outputs_at pair log

-- for each of these pairs the outputs that were logged for it
pub record AreByPair (pairs : ℕ) (log : List LogRecord) (rows : List (List ℕ)) : Type 0 where
  pub as_many : length rows ≡ pairs
  pub each : (pair : ℕ) → pair < pairs → slice_index_or rows pair [] ≡ outputs_at pair log

-- these outputs are marked, and no others
abbrev pub AreMarked : List ℕ → List Bool → Type 0
AreMarked outputs marks =
    (output : ℕ) → output < length marks
    → (slice_index_or marks output false ≡ true) ↔ Contains outputs output
