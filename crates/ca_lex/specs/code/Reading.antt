-- Words of the code beside those of `specs/Reading.antt`. Private functions and proofs cite them.
use Rattle.std.specs.Prelude.{◌≡◌, Option, Result, Ok, Err, ⊤}
use Rattle.ca_lex.specs.Reading.{IsFault}

-- a step left `after` where that was wanted, or reported the wanted fault; what it leaves with a fault is not
-- said
abbrev pub Steps : {Reading Error Fault : Type 0} → (Error → Option Fault) → Reading
    → Result ⊤ Error → Result Reading Fault → Type 0
Steps reported after (Ok done) wanted = wanted ≡ Ok after
Steps reported after (Err error) wanted = IsFault (reported error) wanted
