-- What the Pattern block of a STIL text is made for: the groups, and the chains with their lengths.
use Rattle.std.specs.Prelude.{ℕ, ◌-◌, ◌==◌, nat_le, max, Bool, true, false, not, ◌&&◌, List, [], ◌∷◌, ◌++◌}
use Rattle.std.specs.Prelude.{length, map, Option, Some, None, codes, if◌then◌else◌}
use Rattle.std.specs.List.{list_all, list_any}
use Rattle.std.specs.Str.{bytes_eq}
use Rattle.ca_stil_form.specs.Form.{Token}
pub use Rattle.ca_stil.specs.Words.{quoted, joined}
unfoldable pub use Rattle.ca_stil.specs.Words.{joined_more}

-- a signal: its name, and whether it is an input
abbrev pub Signal : Type 0
Signal = List ℕ × Bool

abbrev pub Names : Type 0
Names = List (List ℕ)

-- the scan groups: the control ports, the scan-in ports, the scan-out ports
abbrev pub Scan : Type 0
Scan = Names × (Names × Names)

-- a byte of a name: 33 to 126, but not `"`
abbrev pub is_name_byte : ℕ → Bool
is_name_byte byte = nat_le 33 byte && nat_le byte 126 && not (byte == 34)

abbrev pub is_name : List ℕ → Bool
is_name name = not (length name == 0) && list_all is_name_byte name

-- a group's names in single quotes
abbrev pub group_word : Names → Token
group_word names = 39 ∷ joined names ++ 39 ∷ []

-- the texts between double quotes; `text` is the one that is open
unfoldable pub quoted_from : Option (List ℕ) → List ℕ → Names
quoted_from place [] = []
quoted_from None (byte ∷ bytes) = quoted_from (if byte == 34 then Some [] else None) bytes
quoted_from (Some text) (byte ∷ bytes) =
    (if byte == 34 then text ∷ [] else [])
    ++ quoted_from (if byte == 34 then None else Some (text ++ byte ∷ [])) bytes

-- the signal goes in this direction: in, or else out
abbrev pub goes : Bool → Signal → Bool
goes true signal = signal.1
goes false signal = not signal.1

-- the names of the signals of one direction, in order
unfoldable pub names_of : Bool → List Signal → Names
names_of input [] = []
names_of input (signal ∷ signals) =
    if goes input signal then signal.0 ∷ names_of input signals else names_of input signals

-- the names are among these, in this order
unfoldable pub is_among : Names → Names → Bool
is_among [] pool = true
is_among (name ∷ names) [] = false
is_among (name ∷ names) (other ∷ pool) =
    elim (bytes_eq name other) [ true ↦ is_among names pool | false ↦ is_among (name ∷ names) pool ]

-- each name is one of these
abbrev pub all_in : Names → Names → Bool
all_in pool names = list_all (λ name. list_any (bytes_eq name) pool) names

-- a group has one or more names
abbrev pub is_group : Names → Bool
is_group names = not (length names == 0) && list_all is_name names

-- a group in the order of the signals: chip inputs, observed outputs, scan-in ports
abbrev pub fits_in_order : Names → Names → Bool
fits_in_order pool names = is_group names && is_among names pool

-- a group of `count` signals, in any order: the three control ports, the scan-out ports of the chains
abbrev pub fits_in_number : ℕ → Names → Names → Bool
fits_in_number count pool names = is_group names && ((length names == count) && all_in pool names)

-- some signal goes in this direction
abbrev pub has_some : Bool → List Signal → Bool
has_some input signals = not (length (names_of input signals) == 0)

-- a chain: its ports, and how many cells it has
pub record Chain : Type 0 where
  pub scan_in : List ℕ
  pub scan_out : List ℕ
  pub cells : ℕ

-- what the patterns are made for: the number of chip inputs and of observed outputs among the ports, and
-- the chains
pub record Frame : Type 0 where
  pub inputs : ℕ
  pub outputs : ℕ
  pub chains : List Chain

-- how many cells the longest chain has
unfoldable pub longest : List Chain → ℕ
longest [] = 0
longest (chain ∷ chains) = max chain.cells (longest chains)

-- a member of a statement: a key, and a word for the values used, after those that fill up
pub record Member : Type 0 where
  pub key : Token
  pub used : ℕ
  pub filled : ℕ

abbrev pub key_inputs : Token
key_inputs = codes "\"_pi_\""

abbrev pub key_outputs : Token
key_outputs = codes "\"_po_\""

abbrev pub key_controls : Token
key_controls = codes "\"_ctl_\""

-- a group that has members, as the only member of its kind
abbrev pub group_member : Token → ℕ → List Member
group_member key count = if count == 0 then [] else record { key = key; used = count; filled = 0 } ∷ []

-- the members of a shift: the scan-in ports, and the scan-out ports
abbrev pub load_member : ℕ → Chain → Member
load_member length chain =
    record { key = quoted chain.scan_in; used = chain.cells; filled = length - chain.cells }

abbrev pub unload_member : ℕ → Chain → Member
unload_member length chain =
    record { key = quoted chain.scan_out; used = chain.cells; filled = length - chain.cells }

abbrev pub load_members : List Chain → List Member
load_members chains = map (load_member (longest chains)) chains

abbrev pub unload_members : List Chain → List Member
unload_members chains = map (unload_member (longest chains)) chains
