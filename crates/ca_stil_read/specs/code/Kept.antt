-- Words of the code beside those of `specs/Kept.antt`. Private functions and proofs cite them.
use Rattle.std.specs.Prelude.{ℕ, ◌≡◌, ◌==◌, ◌||◌, ◌++◌, Bool, true, false, List, Option, Some, None, Result}
use Rattle.std.specs.Prelude.{Ok, Err}
use Rattle.std.specs.Borrow.{Bor}
use Rattle.ca_stil_form.specs.Form.{Outcome, Got, mapped}
use Rattle.ca_stil_form.specs.Tokens.{tokens_of}
use Rattle.ca_stil_form.specs.Frame.{Chain}
use Rattle.ca_stil_form.specs.Whole.{Ports}
use Rattle.ca_stil_read.specs.declared.stop.Stop.{Stop}
use Rattle.ca_stil_read.specs.Plan.{Flat, joined}
use Rattle.ca_stil_read.specs.code.Views.{IsStopped}

-- the text between double quotes that is open, if one is
abbrev pub open_of : Bool → List ℕ → Option (List ℕ)
open_of true name = Some name
open_of false name = None

-- the ports of a chain
abbrev pub ports_at : ℕ → List ℕ → List ℕ → Ports
ports_at number scan_in scan_out = record { number = number; scan_in = scan_in; scan_out = scan_out }

-- `0` or `1`; `1`; `L`, `H` or `X`
abbrev pub is_bit : ℕ → Bool
is_bit byte = byte == 48 || byte == 49

abbrev pub is_one : ℕ → Bool
is_one byte = byte == 49

abbrev pub is_level : ℕ → Bool
is_level byte = byte == 76 || byte == 72 || byte == 88

-- values were added to others as is wanted, and this text is left
abbrev pub IsTaken : {Value : Type 0} → List Value → List Value → Result (Bor (List ℕ)) Stop
    → Outcome (List Value) → Type 0
IsTaken old new (Ok rest) wanted = mapped (λ more. old ++ more) wanted ≡ Got new (tokens_of rest.now)
IsTaken old new (Err why) wanted = IsStopped why wanted

-- bits and values were added to others as is wanted, and this text is left
abbrev pub IsAdded : Flat → Flat → Result (Bor (List ℕ)) Stop → Outcome Flat → Type 0
IsAdded old new (Ok rest) wanted = mapped (joined old) wanted ≡ Got new (tokens_of rest.now)
IsAdded old new (Err why) wanted = IsStopped why wanted

-- a chain with `cells` cells
abbrev pub chain_at : List ℕ → List ℕ → ℕ → Chain
chain_at scan_in scan_out cells = record { scan_in = scan_in; scan_out = scan_out; cells = cells }
