-- The names of defects.
use Rattle.std.specs.Prelude.{ℕ, ◌+◌, ◌==◌, Bool, true, false, if◌then◌else◌, List, [], ◌∷◌, ◌++◌, map, codes}
use Rattle.std.specs.Prelude.{slice_get}
use Rattle.std.specs.Prelude.{option_map, unwrap_or}
use Rattle.std.specs.Str.{bytes_eq}
use Rattle.ca_lex.specs.Words.{upper_case}
use Rattle.ca_cell.specs.declared.raw.RawPin.{RawPin}
use Rattle.ca_cell.specs.declared.raw.RawCell.{RawCell}
use Rattle.ca_cell.specs.Raw.{node_of, circuit_of}
use Rattle.ca_cell.specs.declared.defect.Defect.{Defect}
use Rattle.ca_cell.specs.declared.defect.Defect.TheVariants.{OpenDrain, OpenSource, OpenGate, OpenPin}
use Rattle.ca_cell.specs.declared.defect.Defect.TheVariants.{Short}
use Rattle.ca_cell.specs.Defect.{gated_at}
use Rattle.ca_cell.specs.List.{defects_of}

-- the first of these nets whose node is n; the first of them is at a place of the list of nets
abbrev pub net_from : List RawPin → ℕ → ℕ → List (List ℕ) → List ℕ
net_from pins n place [] = []
net_from pins n place (net ∷ more) = if node_of pins place == n then net else net_from pins n (place + 1) more

-- the name of a node: that of the first net whose node it is
abbrev pub node_name : RawCell → ℕ → List ℕ
node_name raw n = net_from raw.pins n 0 raw.nets

-- the name of a device
abbrev pub device_name : RawCell → ℕ → List ℕ
device_name raw place = unwrap_or (option_map (λ device. device.name) (slice_get raw.devices place)) []

-- the letter of an open: D and S of a device that has a gate, and of another 1 and 2
abbrev pub drain_letter : Bool → ℕ
drain_letter true = 68
drain_letter false = 49

abbrev pub source_letter : Bool → ℕ
source_letter true = 83
source_letter false = 50

-- a letter in brackets
abbrev pub mark_of : ℕ → List ℕ
mark_of letter = 40 ∷ letter ∷ 41 ∷ []

-- the device at a place has a gate
abbrev pub is_transistor : RawCell → ℕ → Bool
is_transistor raw place = gated_at (circuit_of raw).devices place

-- the name of a defect, in upper case: MP1(D), MP1(S), MP1(G), R1(1), R1(2), A1(P), VDD=ZN
abbrev pub name_of : RawCell → Defect → List ℕ
name_of raw (OpenDrain opened) =
    upper_case (device_name raw opened.0) ++ mark_of (drain_letter (is_transistor raw opened.0))
name_of raw (OpenSource opened) =
    upper_case (device_name raw opened.0) ++ mark_of (source_letter (is_transistor raw opened.0))
name_of raw (OpenGate opened) = upper_case (device_name raw opened.0) ++ codes "(G)"
name_of raw (OpenPin pin) = upper_case (node_name raw pin.0) ++ codes "(P)"
name_of raw (Short low high) =
    upper_case (node_name raw low.0) ++ (codes "=" ++ upper_case (node_name raw high.0))

-- the names of a cell's defects, in list order
abbrev pub names_of : RawCell → List (List ℕ)
names_of raw = map (name_of raw) (defects_of raw)

-- the text in upper case is the name of the defect
abbrev pub is_called : RawCell → List ℕ → Defect → Bool
is_called raw text defect = bytes_eq (name_of raw defect) (upper_case text)
