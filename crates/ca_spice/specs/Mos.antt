-- The M card and the R card: a transistor, and a resistor.
use Rattle.std.specs.Prelude.{ℕ, ◌+◌, ◌==◌, nat_lt, Bool, true, false, not, ◌&&◌, if◌then◌else◌, List, []}
use Rattle.std.specs.Prelude.{◌∷◌, codes, Option, Some, None, option_and_then}
use Rattle.std.specs.List.{list_all}
use Rattle.std.specs.Str.{bytes_eq}
use Rattle.ca_lex.specs.Length.{length_of, ◌>>=◌}
use Rattle.ca_net.specs.declared.device.DeviceKind.{DeviceKind}
use Rattle.ca_net.specs.declared.device.DeviceKind.TheVariants as kind
use Rattle.ca_spice.specs.Names.{is_name}

-- the word is `=`
abbrev pub is_sign : List ℕ → Bool
is_sign word = bytes_eq word (codes "=")

-- a name, `=` and a value, again and again; each may be any word
unfoldable pub are_params : List (List ℕ) → Bool
are_params [] = true
are_params (name ∷ []) = false
are_params (name ∷ sign ∷ []) = false
are_params (name ∷ sign ∷ value ∷ more) = is_sign sign && are_params more

-- how often a parameter occurs
unfoldable pub count_of : List ℕ → List (List ℕ) → ℕ
count_of key [] = 0
count_of key (name ∷ []) = 0
count_of key (name ∷ sign ∷ []) = 0
count_of key (name ∷ sign ∷ value ∷ more) =
    if bytes_eq name key then 1 + count_of key more else count_of key more

-- the value of a parameter where it first occurs
unfoldable pub value_of : List ℕ → List (List ℕ) → Option (List ℕ)
value_of key [] = None
value_of key (name ∷ []) = None
value_of key (name ∷ sign ∷ []) = None
value_of key (name ∷ sign ∷ value ∷ more) = if bytes_eq name key then Some value else value_of key more

-- parameters of which neither W nor L occurs twice
abbrev pub are_sound : List (List ℕ) → Bool
are_sound params = are_params params && not (nat_lt 1 (count_of (codes "W") params))
    && not (nat_lt 1 (count_of (codes "L") params))

-- the kind of a device, which its model's first letter gives
unfoldable pub kind_of : List ℕ → Option DeviceKind
kind_of [] = None
kind_of (letter ∷ model) = if letter == 78 then Some kind.N else (if letter == 80 then Some kind.P else None)

-- what the words of an M card say after the device's name; the bulk is not used
pub record Wiring : Type 0 where
  pub drain : List ℕ
  pub gate : List ℕ
  pub source : List ℕ
  pub kind : DeviceKind
  pub params : List (List ℕ)

abbrev pub wiring_with : List ℕ → List ℕ → List ℕ → List (List ℕ) → DeviceKind → Option Wiring
wiring_with drain gate source params kind =
    Some (record { drain = drain; gate = gate; source = source; kind = kind; params = params })

-- the form of an M card: the names of device, drain, gate, source, bulk and model, and then parameters
unfoldable pub wiring_of : List ℕ → List (List ℕ) → Option Wiring
wiring_of name (drain ∷ gate ∷ source ∷ bulk ∷ model ∷ params) =
    if list_all is_name (name ∷ drain ∷ gate ∷ source ∷ bulk ∷ model ∷ []) && are_sound params
    then option_and_then (wiring_with drain gate source params) (kind_of model)
    else None
wiring_of name _ = None

-- what an R card says: a resistor's drain is given as its gate
abbrev pub resistor_wiring : List ℕ → List ℕ → Wiring
resistor_wiring drain source =
    record { drain = drain; gate = drain; source = source; kind = kind.D; params = [] }

-- the form of an R card: the names of device, drain and source, and then one or more words
unfoldable pub ends_of : List ℕ → List (List ℕ) → Option Wiring
ends_of name (drain ∷ source ∷ word ∷ more) =
    if list_all is_name (name ∷ drain ∷ source ∷ []) then Some (resistor_wiring drain source) else None
ends_of name _ = None

-- width and length of a device, in units of 10^-18 metre
pub record Sizes : Type 0 where
  pub width : ℕ
  pub length : ℕ

-- width and length of a resistor, which mean nothing
abbrev pub resistor_sizes : Sizes
resistor_sizes = record { width = 1; length = 1 }

-- the length that is the value of a parameter
abbrev pub length_at : List ℕ → List (List ℕ) → Option ℕ
length_at key params = option_and_then length_of (value_of key params)

-- W and L, if both are there and are lengths
unfoldable pub sizes_of : List (List ℕ) → Option Sizes
sizes_of params = do
  width ← length_at (codes "W") params
  length ← length_at (codes "L") params
  Some (record { width = width; length = length })
