-- What a reader's steps and calls give, where memory may run out at any time.
use Rattle.std.specs.Prelude.{◌≡◌, Bool, if◌then◌else◌, Option, Some, None, Result, Ok, Err}

-- rules in the order in which they are tried: the first that is broken is reported
abbrev pub unless : {Reading Kind : Type 0} → Bool → Kind → Result Reading Kind → Result Reading Kind
unless is_broken kind next = if is_broken then Err kind else next

-- this fault is the one wanted; `None` stands for out of memory, which says nothing about what was wanted
abbrev pub IsFault : {Reading Fault : Type 0} → Option Fault → Result Reading Fault → Type 0
IsFault None wanted = Unit {0}
IsFault (Some fault) wanted = wanted ≡ Err fault

-- a call gave the view of what was wanted, or its fault; `reported` is the fault that an error is, and None
-- when out of memory
abbrev pub Gives : {Value Reading Error Fault : Type 0} → (Error → Option Fault) → (Value → Reading)
    → Result Value Error → Result Reading Fault → Type 0
Gives reported view (Ok value) wanted = wanted ≡ Ok (view value)
Gives reported view (Err error) wanted = IsFault (reported error) wanted
