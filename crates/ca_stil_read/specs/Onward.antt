-- One reading after another.
use Rattle.std.specs.Prelude.{Bool, false, ◌&&◌, List, [], ◌∷◌, Option, Some, None, if◌then◌else◌}
use Rattle.std.specs.Str.{bytes_eq}
use Rattle.ca_stil_form.specs.Form.{Token, Outcome, Got, Stuck, mapped}

-- what is read after a value; where there is none the reading is stuck as before
abbrev pub onward : {First Second : Type 0} → Outcome First → (First → List Token → Outcome Second)
    → Outcome Second
onward (Got first rest) next = next first rest
onward (Stuck rest) next = Stuck rest

-- the tokens begin with this one
abbrev pub begins_with : Token → List Token → Bool
begins_with key [] = false
begins_with key (token ∷ tokens) = bytes_eq key token

-- a value that may be left out: it is there where this is possible and its first token stands there
abbrev pub read_optional : {Value : Type 0} → Bool → Token → (List Token → Outcome Value) → List Token
    → Outcome (Option Value)
read_optional possible key read tokens =
    if possible && begins_with key tokens then mapped (λ value. Some value) (read tokens) else Got None tokens
