-- What the code reads, as the definitions see it.
use Rattle.std.specs.Prelude.{ℕ, ⊤, ◌≡◌, List, Result, Ok, Err}
use Rattle.std.specs.Borrow.{Bor}
use Rattle.ca_stil_read.specs.declared.stop.Stop.{Stop}
use Rattle.ca_stil_read.specs.declared.stop.Stop.TheVariants as stop
use Rattle.ca_stil_form.specs.Form.{Outcome, Got, Stuck}
use Rattle.ca_stil_form.specs.Tokens.{tokens_of}

-- the reading stopped as is wanted; out of memory says nothing of what was wanted
abbrev pub IsStopped : {Value : Type 0} → Stop → Outcome Value → Type 0
IsStopped (stop.Stuck rest) wanted = wanted ≡ Stuck (tokens_of rest.now)
IsStopped stop.NoMemory wanted = Unit {0}

-- fixed tokens were passed as is wanted, and this text is left
abbrev pub IsPassed : Result (Bor (List ℕ)) Stop → Outcome ⊤ → Type 0
IsPassed (Ok rest) wanted = wanted ≡ Got tt (tokens_of rest.now)
IsPassed (Err why) wanted = IsStopped why wanted

-- a value was read as is wanted, and this text is left
abbrev pub IsRead : {Kept Value : Type 0} → (Kept → Value) → Result (Kept × Bor (List ℕ)) Stop
    → Outcome Value → Type 0
IsRead view (Ok both) wanted = wanted ≡ Got (view both.0) (tokens_of both.1.now)
IsRead view (Err why) wanted = IsStopped why wanted
