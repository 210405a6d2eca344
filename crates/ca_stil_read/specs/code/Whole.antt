-- Words of the code beside those of `specs/Whole.antt`. Private functions and proofs cite them.
use Rattle.std.specs.Prelude.{[], ◌∷◌}
use Rattle.ca_stil_form.specs.Form.{Outcome, Got, Stuck}

-- a reading with nothing after it
abbrev pub nothing_after : {Value : Type 0} → Outcome Value → Outcome Value
nothing_after (Got value []) = Got value []
nothing_after (Got value (token ∷ tokens)) = Stuck (token ∷ tokens)
nothing_after (Stuck rest) = Stuck rest
