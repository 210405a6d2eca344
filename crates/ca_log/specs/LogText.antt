-- What the text of a tester's log reads as: its records, one after another, up to the first that is bad.
use Rattle.std.specs.Prelude.{ℕ, zero, suc, ◌≡◌, ◌<◌, ◌^◌, ◌+◌, ◌==◌, ◌≢◌, Bool, true, false, not, ◌&&◌}
use Rattle.std.specs.Prelude.{List, [], ◌∷◌, ◌++◌, length, slice_index_or, Option, Some, None, Result, Ok}
use Rattle.std.specs.Prelude.{Err, option_map, codes, decimal, if◌then◌else◌}
use Rattle.std.specs.List.{list_any, All, AllPairs}
use Rattle.std.specs.Str.{bytes_eq}
use Rattle.ca_csv.specs.Records.{text_records}
use Rattle.ca_names.specs.Names.{place_of}
use Rattle.ca_net.specs.declared.trit.Trit.{Trit}
use Rattle.ca_net.specs.declared.trit.Trit.TheVariants.{Zero, One, X}
use Rattle.ca_net.specs.State.{value_at}
use Rattle.ca_log.specs.declared.record.LogRecord.{LogRecord}
use Rattle.ca_log.specs.declared.fault.LogFault.{LogFault}
use Rattle.ca_log.specs.declared.fault.LogFault.TheVariants as fault

-- the first record is `pair,output`, letter by letter
unfoldable pub is_header : List (List ℕ) → Bool
is_header [] = false
is_header (pair ∷ []) = false
is_header (pair ∷ output ∷ []) = bytes_eq pair (codes "pair") && bytes_eq output (codes "output")
is_header (pair ∷ output ∷ more ∷ others) = false

-- the number below `count` of which these are the decimal digits, without a leading zero
unfoldable pub number_below : ℕ → List ℕ → Option ℕ
number_below zero digits = None
number_below (suc count) digits =
    if bytes_eq digits (decimal count) then Some count else number_below count digits

-- both name one place
abbrev pub is_same : LogRecord → LogRecord → Bool
is_same one other = (one.pair == other.pair) && (one.output == other.output)

-- the log has the record
abbrev pub has_record : LogRecord → List LogRecord → Bool
has_record here log = list_any (is_same here) log

-- 0 or 1
abbrev pub is_definite : Trit → Bool
is_definite Zero = true
is_definite One = true
is_definite X = false

-- a value is expected at the place: 0 or 1
abbrev pub is_expected : List (List Trit) → LogRecord → Bool
is_expected expected here =
    is_definite (value_at (slice_index_or expected here.pair []) here.output)

-- the place of these names: the pair of this number, and the first output of this name
abbrev pub place_with : ℕ → List (List ℕ) → List ℕ → List ℕ → Option LogRecord
place_with pairs names pair output = elim (number_below pairs pair) [
  | None ↦ None
  | Some number ↦ option_map (λ place. record { pair = number; output = place }) (place_of output names)
]

-- the place that a record names: one of this many pairs, and an output; or none, where it hasn't two fields
unfoldable pub place_in : ℕ → List (List ℕ) → List (List ℕ) → Option LogRecord
place_in pairs names [] = None
place_in pairs names (pair ∷ []) = None
place_in pairs names (pair ∷ output ∷ []) = place_with pairs names pair output
place_in pairs names (pair ∷ output ∷ more ∷ others) = None

-- the place may join those that are logged: a value is expected there, and it isn't among them
abbrev pub may_join : List (List Trit) → List LogRecord → LogRecord → Bool
may_join expected log here = is_expected expected here && not (has_record here log)

-- the log with the record of these fields, where it may join it
unfoldable pub with_fields : List (List ℕ) → List (List Trit) → List LogRecord → List (List ℕ)
    → Option (List LogRecord)
with_fields names expected log fields = elim (place_in (length expected) names fields) [
  | None ↦ None
  | Some here ↦ if may_join expected log here then Some (log ++ here ∷ []) else None
]

-- the log with these records, of which the first has this number; or the number of the first that is bad
unfoldable pub records_from : List (List ℕ) → List (List Trit) → ℕ → List LogRecord → List (List (List ℕ))
    → Result (List LogRecord) ℕ
records_from names expected row log [] = Ok log
records_from names expected row log (fields ∷ records) = elim (with_fields names expected log fields) [
  | None ↦ Err row
  | Some more ↦ records_from names expected (row + 1) more records
]

-- the log that the records of a text are, or the number of the first that is bad, counted from 1: 1 where
-- there is no record
unfoldable pub log_with : List (List ℕ) → List (List Trit) → List (List (List ℕ))
    → Result (List LogRecord) ℕ
log_with names expected [] = Err 1
log_with names expected (fields ∷ records) =
    if is_header fields then records_from names expected 2 [] records else Err 1

-- the log that a text is, where the observed outputs have these names and these values are expected
abbrev pub log_of : List (List ℕ) → List (List Trit) → List ℕ → Result (List LogRecord) ℕ
log_of names expected text = log_with names expected (text_records text)

-- what the code answers: the log that the text reads as, or its first bad record; out of memory is always
-- allowed
abbrev pub Reads : Result (List LogRecord) LogFault → Result (List LogRecord) ℕ → Type 0
Reads (Ok log) wanted = wanted ≡ Ok log
Reads (Err (fault.BadLogRow row)) wanted = wanted ≡ Err row
Reads (Err fault.NoMemory) wanted = Unit {0}

-- the place is of a listed pair and an observed output, and a value is expected there
pub record IsLogged (names : List (List ℕ)) (expected : List (List Trit)) (here : LogRecord) : Type 0 where
  pub listed : here.pair < length expected
  pub observed : here.output < length names
  pub is_definite : is_expected expected here ≡ true

-- each record is of such a place, no two are of one, and there are fewer than 2^32
pub record IsLog (names : List (List ℕ)) (expected : List (List Trit)) (log : List LogRecord) : Type 0 where
  pub logged : All (IsLogged names expected) log
  pub different : AllPairs (λ one other. one ≢ other) log
  pub few : length log < 2 ^ 32
