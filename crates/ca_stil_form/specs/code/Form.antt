-- Words of the code beside those of `specs/Form.antt`. Private functions and proofs cite them.
use Rattle.std.specs.Prelude.{◌+◌, ◌≡◌, Bool, true, false, List, [], ◌∷◌, ◌++◌}
use Rattle.std.specs.Str.{bytes_eq}
use Rattle.ca_stil_form.specs.Form.{Token, Outcome}
use Rattle.ca_stil_form.specs.Form.{Got, Stuck}

-- a reader is stuck at `rest`: some value that the form allows begins as the tokens before it; and with the
-- next token, whatever follows it, the reader is stuck there again, so that no value begins so
pub record IsStuck {Value : Type 0} (allowed : Value → Bool) (written : Value → List Token)
    (read : List Token → Outcome Value)
    (tokens rest : List Token) : Type 0 where
  pub seen : List Token
  pub whole : tokens ≡ seen ++ rest
  pub value : Value
  pub more : List Token
  pub is_allowed : allowed value ≡ true
  pub alive : written value ≡ seen ++ more
  pub fixed : (next : Token) (after other : List Token) → rest ≡ next ∷ after
      → read (seen ++ next ∷ other) ≡ Stuck (next ∷ other)

-- a reader is exact for a form: some value is allowed; what is written is read again, whatever follows;
-- nothing else is read; and it is stuck exactly at the first token with which no text of the form goes on
pub record IsExact {Value : Type 0} (allowed : Value → Bool) (written : Value → List Token)
    (read : List Token → Outcome Value) : Type 0 where
  pub some : Value
  pub some_allowed : allowed some ≡ true
  pub back : (value : Value) (rest : List Token) → allowed value ≡ true
      → read (written value ++ rest) ≡ Got value rest
  pub found : (tokens : List Token) (value : Value) (rest : List Token) → read tokens ≡ Got value rest
      → (allowed value ≡ true) × (tokens ≡ written value ++ rest)
  pub stuck : (tokens rest : List Token) → read tokens ≡ Stuck rest → IsStuck allowed written read tokens rest

-- the tokens begin with this one, or with another one
abbrev pub Begins : Token → List Token → Type 0
Begins key [] = ⊥
Begins key (token ∷ tokens) = bytes_eq key token ≡ true

abbrev pub BeginsOther : Token → List Token → Type 0
BeginsOther key [] = ⊥
BeginsOther key (token ∷ tokens) = bytes_eq key token ≡ false
