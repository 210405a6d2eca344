-- The roles of pins: words PIN:ROLE after *.PININFO.
use Rattle.std.specs.Prelude.{ℕ, ◌+◌, ◌==◌, nat_lt, Bool, not, false, ◌&&◌, if◌then◌else◌, List, [], ◌∷◌}
use Rattle.std.specs.Prelude.{codes, length, take, drop, slice_get, slice_set, Option, Some, None, is_some}
use Rattle.std.specs.Prelude.{Result, Ok, Err}
use Rattle.std.specs.List.{list_all}
use Rattle.std.specs.Str.{bytes_eq}
use Rattle.ca_lex.specs.FirstFault.{steps_from}
use Rattle.ca_lex.specs.Reading.{unless}
use Rattle.ca_cell.specs.declared.raw.Role.{Role}
use Rattle.ca_cell.specs.declared.raw.Role.TheVariants as role
use Rattle.ca_spice.specs.declared.fault.SpiceKind.{SpiceKind}
use Rattle.ca_spice.specs.declared.fault.SpiceKind.TheVariants.{BadCard, BadRole}
use Rattle.ca_spice.specs.declared.pin.Pin.{Pin}
use Rattle.ca_names.specs.Names.{place_of}
use Rattle.ca_spice.specs.Names.{is_name}

-- the place of the last `:` of a text whose first byte has this place, or `found` if it has none
unfoldable pub last_colon : ℕ → ℕ → List ℕ → ℕ
last_colon place found [] = found
last_colon place found (byte ∷ more) = last_colon (place + 1) (if byte == 58 then place else found) more

-- the place of the last `:` of a word, or the word's length if it has none
abbrev pub colon_place : List ℕ → ℕ
colon_place word = last_colon 0 (length word) word

-- the name of the pin and the text of the role in a word that is split at its last `:`
abbrev pub pin_part : List ℕ → List ℕ
pin_part word = take (colon_place word) word

abbrev pub role_part : List ℕ → List ℕ
role_part word = drop (colon_place word + 1) word

-- the word has a `:`, with a name before the last one
unfoldable pub is_pin_word : List ℕ → Bool
is_pin_word word = nat_lt 0 (colon_place word) && nat_lt (colon_place word) (length word)
    && is_name (pin_part word)

-- one or more such words
abbrev pub are_pin_words : List (List ℕ) → Bool
are_pin_words [] = false
are_pin_words (word ∷ words) = list_all is_pin_word (word ∷ words)

-- the role that a text names
unfoldable pub role_of : List ℕ → Option Role
role_of text = if bytes_eq text (codes "I") then Some role.Input
    else (if bytes_eq text (codes "O") then Some role.Output
    else (if bytes_eq text (codes "P") then Some role.Power
    else (if bytes_eq text (codes "G") then Some role.Ground else None)))

-- the pins, of which the one at the place takes the role, which it doesn't have yet
abbrev pub with_role : Role → List Pin → ℕ → Option Pin → Result (List Pin) SpiceKind
with_role taken pins place None = Err BadRole
with_role taken pins place (Some pin) = unless (is_some pin.role) BadRole
    (Ok (slice_set pins place (record { name = pin.name; role = Some taken })))

-- the pins after one word, where the pins are the first of the nets
unfoldable pub role_step : List (List ℕ) → List ℕ → List Pin → Result (List Pin) SpiceKind
role_step nets word pins = elim (role_of (role_part word)) [
  | None ↦ Err BadRole
  | Some taken ↦ elim (place_of (pin_part word) nets) [
    | None ↦ Err BadRole
    | Some place ↦ with_role taken pins place (slice_get pins place)
  ]
]

-- the pins after all these words
unfoldable pub pin_info : List (List ℕ) → List (List ℕ) → List Pin → Result (List Pin) SpiceKind
pin_info nets words pins = unless (not (are_pin_words words)) BadCard (steps_from (role_step nets) pins words)
