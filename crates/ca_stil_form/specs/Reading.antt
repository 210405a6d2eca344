-- What tokens read as, and which one is the first that is faulty.
use Rattle.std.specs.Prelude.{ℕ, ◌≡◌, true, List, [], ◌∷◌, ◌++◌, length, Result, Ok, Err}
use Rattle.ca_stil_form.specs.Form.{Token, Outcome, Got, Stuck}
use Rattle.ca_stil_form.specs.Grammar.{Form}

-- what a reading gives where nothing may follow it: a value, or how many tokens are left from the first
-- faulty one on
abbrev pub at_end : {Value : Type 0} → Outcome Value → Result Value ℕ
at_end (Got value []) = Ok value
at_end (Got value (token ∷ tokens)) = Err (length (token ∷ tokens))
at_end (Stuck rest) = Err (length rest)

-- the value of these tokens, or how many are left
abbrev pub whole : {Value : Type 0} → Form Value → List Token → Result Value ℕ
whole form tokens = at_end (form.read tokens)

-- these are the tokens of the value
pub record IsWritten {Value : Type 0} (form : Form Value) (value : Value) (tokens : List Token) : Type 0 where
  pub allowed : form.allowed value ≡ true
  pub same : tokens ≡ form.written value

-- some value's tokens begin with these
pub record Begins {Value : Type 0} (form : Form Value) (tokens : List Token) : Type 0 where
  pub value : Value
  pub more : List Token
  pub written : IsWritten form value (tokens ++ more)

-- of these tokens `left` are left from the first one on that no text of the form has after the tokens before
-- it; none is left where the tokens end too early
pub record IsFirstFaulty {Value : Type 0} (form : Form Value) (tokens : List Token) (left : ℕ) : Type 0 where
  pub seen : List Token
  pub rest : List Token
  pub parted : tokens ≡ seen ++ rest
  pub counted : left ≡ length rest
  pub goes_on : Begins form seen
  pub no_further : (next : Token) (after : List Token) → rest ≡ next ∷ after
      → Begins form (seen ++ next ∷ []) → ⊥
  pub no_end : (value : Value) → IsWritten form value tokens → ⊥
