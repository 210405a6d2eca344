-- The reading of the open file, up to a limit.
use Rattle.std.specs.Prelude.{◌≡◌, ◌<◌, ℕ, List, length, take, Bool, true, false, Option}
use Rattle.std.specs.Option.{ForSome}
use Rattle.ca_store.specs.Store.{Files, Opened, Nothing, Reading, IsReading, Rose}
use Rattle.ca_store.specs.declared.reading.ReadFault.{ReadFault}
use Rattle.ca_store.specs.declared.reading.ReadFault.TheVariants.{StoreFailed, TooLong, NoMemory}

-- the file that was opened is still open, where it is known, and this is what it gave so far
pub record IsSoFar (name bytes : List ℕ) (opened : Opened) (text : List ℕ) : Type 0 where
  pub place : opened ≡ Reading name (length text)
  pub first : text ≡ take (length text) bytes

-- the same of a store whose files may be known, where this was open before and this is after
abbrev pub IsReadSoFar : Option Files → Opened → Opened → List ℕ → Type 0
IsReadSoFar files old new text = (name : List ℕ) → old ≡ Reading name 0
    → ForSome files (λ reported. ForSome (reported name) (λ bytes. IsSoFar name bytes new text))

-- a text that was read is the whole file, or the file is longer than the limit
abbrev pub IsEnd : Bool → ℕ → List ℕ → List ℕ → Type 0
IsEnd true limit text bytes = text ≡ bytes
IsEnd false limit text bytes = limit < length bytes

-- the same of a store whose files may be known, where this was open
abbrev pub IsReadUpTo : Bool → ℕ → List ℕ → Option Files → Opened → Type 0
IsReadUpTo is_whole limit text files old = (name : List ℕ) → old ≡ Reading name 0
    → ForSome files (λ reported. ForSome (reported name) (IsEnd is_whole limit text))

-- how a reading of the open file stops with a fault: what is open then, and the count of faults before and
-- after it
abbrev pub IsStop : Opened → ℕ → ℕ → ReadFault → Type 0
IsStop opened before after StoreFailed = (opened ≡ Nothing) × Rose before after
IsStop opened before after (TooLong taken) = ⊥
IsStop opened before after NoMemory = IsReading opened × (after ≡ before)
