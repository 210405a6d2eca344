-- Names by which the nets and the devices of a subcircuit are told apart.
use Rattle.std.specs.Prelude.{ℕ, ◌≡◌, ◌≢◌, ◌≤◌, ◌⊎◌, List, [], map, length, codes, slice_get, Some}
use Rattle.std.specs.List.{All}
use Rattle.ca_lex.specs.Words.{upper_case}
use Rattle.ca_cell.specs.declared.raw.RawCell.{RawCell}

-- a name: an equals sign alone, or one or more bytes of which none is an equals sign
abbrev pub IsPlain : List ℕ → Type 0
IsPlain name = (name ≡ codes "=") ⊎ ((name ≢ []) × All (λ byte. byte ≢ 61) name)

-- no two of these names are the same in upper case
abbrev pub Differ : List (List ℕ) → Type 0
Differ names =
    (one other : ℕ) (first second : List ℕ) → slice_get names one ≡ Some first
    → slice_get names other ≡ Some second → upper_case first ≡ upper_case second → one ≡ other

-- the names of the devices
abbrev pub device_names : RawCell → List (List ℕ)
device_names raw = map (λ device. device.name) raw.devices

-- each pin has a net; nets have names that differ, and so have devices
pub record HasPlainNames (raw : RawCell) : Type 0 where
  pub pins : length raw.pins ≤ length raw.nets
  pub nets : All IsPlain raw.nets
  pub nets_differ : Differ raw.nets
  pub devices : All IsPlain (device_names raw)
  pub devices_differ : Differ (device_names raw)
