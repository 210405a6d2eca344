-- The text of a cell as a cell netlist.
use Rattle.std.specs.Prelude.{ℕ, ◌≡◌, Bool, List, [], ◌∷◌, ◌++◌, map, flat_map, codes, decimal, find}
use Rattle.std.specs.Prelude.{Contains, option_map, unwrap_or, slice_get, Ok}
use Rattle.ca_net.specs.declared.device.DeviceKind.{DeviceKind}
use Rattle.ca_net.specs.declared.device.DeviceKind.TheVariants as kind
use Rattle.ca_lex.specs.Words.{upper_case}
use Rattle.ca_cell.specs.declared.raw.Role.{Role}
use Rattle.ca_cell.specs.declared.raw.Role.TheVariants as role
use Rattle.ca_cell.specs.declared.raw.RawPin.{RawPin}
use Rattle.ca_cell.specs.declared.raw.RawDevice.{RawDevice}
use Rattle.ca_cell.specs.declared.raw.RawCell.{RawCell}
use Rattle.ca_cell.specs.declared.strength.StrengthTable.{StrengthTable}
use Rattle.ca_cell.specs.Raw.{is_power, is_ground}
use Rattle.ca_spice.specs.declared.subcircuit.Subcircuit.{Subcircuit}
use Rattle.ca_spice.specs.Reading.{library_of}

-- a word with the space before it
abbrev pub spaced : List ℕ → List ℕ
spaced word = 32 ∷ word

-- these words with one space between two, and a line feed
abbrev pub line_of : List ℕ → List (List ℕ) → List ℕ
line_of first words = first ++ (flat_map spaced words ++ codes "\n")

-- the names of the pins, in order
abbrev pub pin_names : List RawPin → List (List ℕ)
pin_names pins = map (λ pin. pin.name) pins

-- the letter of a role
abbrev pub role_letter : Role → ℕ
role_letter role.Input = 73
role_letter role.Output = 79
role_letter role.Power = 80
role_letter role.Ground = 71

-- a pin with its role: PIN:ROLE
abbrev pub pin_word : RawPin → List ℕ
pin_word pin = pin.name ++ (58 ∷ role_letter pin.role ∷ [])

-- the name of the first pin of a role, and no bytes where there is none
abbrev pub rail_name : (Role → Bool) → List RawPin → List ℕ
rail_name is_role pins = unwrap_or (option_map (λ pin. pin.name) (find (λ pin. is_role pin.role) pins)) []

-- the bulk of a transistor, which its kind chooses; a resistor has none
abbrev pub bulk_of : List ℕ → List ℕ → DeviceKind → List ℕ
bulk_of p_bulk n_bulk kind.P = p_bulk
bulk_of p_bulk n_bulk kind.N = n_bulk
bulk_of p_bulk n_bulk kind.D = []

-- the model of a transistor
abbrev pub model_of : DeviceKind → List ℕ
model_of kind.P = codes "PCH"
model_of kind.N = codes "NCH"
model_of kind.D = []

-- the name of the net at a place
abbrev pub net_name : List (List ℕ) → ℕ → List ℕ
net_name nets place = unwrap_or (slice_get nets place) []

-- a parameter with its sign, and the length that is its value, as digits of 10^-18 metre
abbrev pub size_word : List ℕ → ℕ → List ℕ
size_word key size = key ++ (decimal size ++ codes "e-18")

-- the terminals of a device
abbrev pub terminal_words : List (List ℕ) → RawDevice → List (List ℕ)
terminal_words nets device =
    net_name nets device.drain ∷ net_name nets device.gate ∷ net_name nets device.source ∷ []

-- what follows them: the bulk, the model, W and L
abbrev pub body_words : List ℕ → RawDevice → List (List ℕ)
body_words bulk device =
    bulk ∷ model_of device.kind ∷ size_word (codes "W=") device.width.0
    ∷ size_word (codes "L=") device.length.0 ∷ []

-- the words of an M card after the device's name
abbrev pub mos_words : List (List ℕ) → List ℕ → RawDevice → List (List ℕ)
mos_words nets bulk device = terminal_words nets device ++ body_words bulk device

-- the words of an R card after the device's name
abbrev pub resistor_words : List (List ℕ) → RawDevice → List (List ℕ)
resistor_words nets device = net_name nets device.drain ∷ net_name nets device.source ∷ codes "1" ∷ []

-- the words of a device's card after its name
abbrev pub words_by : DeviceKind → List (List ℕ) → List ℕ → RawDevice → List (List ℕ)
words_by kind.P nets bulk device = mos_words nets bulk device
words_by kind.N nets bulk device = mos_words nets bulk device
words_by kind.D nets bulk device = resistor_words nets device

abbrev pub device_words : List (List ℕ) → List ℕ → RawDevice → List (List ℕ)
device_words nets bulk device = words_by device.kind nets bulk device

-- the card of a device
abbrev pub device_line : List ℕ → List ℕ → List (List ℕ) → RawDevice → List ℕ
device_line p_bulk n_bulk nets device = line_of device.name
    (device_words nets (bulk_of p_bulk n_bulk device.kind) device)

-- the text of a subcircuit of this name: its pins, their roles, its devices in order, and its end
unfoldable pub cell_text : List ℕ → RawCell → List ℕ
cell_text name raw =
    line_of (codes ".SUBCKT") (name ∷ pin_names raw.pins)
    ++ (line_of (codes "*.PININFO") (map pin_word raw.pins)
    ++ (flat_map
    (device_line (rail_name is_power raw.pins) (rail_name is_ground raw.pins) raw.nets) raw.devices
    ++ line_of (codes ".ENDS") []))

-- a subcircuit under a name in upper case, as a library keeps it
abbrev pub kept_as : List ℕ → RawCell → Subcircuit
kept_as name raw = record { name = upper_case name; raw = raw }

-- under this strength table some text reads as a library that holds this subcircuit under this name
pub record IsReadable (table : StrengthTable) (name : List ℕ) (raw : RawCell) : Type 0 where
  pub text : List ℕ
  pub cells : List Subcircuit
  pub read : library_of table text ≡ Ok cells
  pub holds : Contains cells (kept_as name raw)
