-- The first rule that an instance breaks, as the code finds it. Only the proofs of the code cite this.
use Rattle.std.specs.Prelude.{ℕ, ◌≡◌, ◌<◌, List, [], ◌∷◌, Bool, false, ◌&&◌, ◌||◌, Option, Some, None}
use Rattle.std.specs.Prelude.{is_none, slice_get, ⊤, if◌then◌else◌}
use Rattle.std.specs.Str.{bytes_eq}
use Rattle.ca_names.specs.Names.{has_name}
use Rattle.ca_cell.specs.declared.raw.RawPin.{RawPin}
use Rattle.ca_cell.specs.Raw.{is_input, is_output}
use Rattle.ca_cell.specs.Library.{Named}
use Rattle.ca_verilog.specs.declared.raw.RawUse.{RawUse}
use Rattle.ca_verilog.specs.declared.raw.RawInstance.{RawInstance}
use Rattle.ca_verilog.specs.declared.raw.RawNetlist.{RawNetlist}
use Rattle.ca_wiring.specs.declared.scan_row.ScanRow.{ScanRow}
use Rattle.ca_wiring.specs.declared.fault.ChipFault.{ChipFault}
use Rattle.ca_wiring.specs.declared.fault.ChipFault.TheVariants as fault
use Rattle.ca_wiring.specs.Wiring.{Meaning, Unknown, Broken, meaning_of, bit_on}
use Rattle.ca_wiring.specs.InstanceRules.{IsKnown, IsSound, HasStrayPin, LacksPin}

-- the first of these pins that is connected to nothing
abbrev pub first_open : List RawUse → List (List ℕ) → Option (List ℕ)
first_open uses [] = None
first_open uses (name ∷ names) = if is_none (bit_on uses name) then Some name else first_open uses names

-- a library cell has an input or output pin of this name
abbrev pub has_pin : List RawPin → List ℕ → Bool
has_pin [] name = false
has_pin (pin ∷ pins) name =
    ((is_input pin.role || is_output pin.role) && bytes_eq name pin.name) || has_pin pins name

-- the pin of the first connection to a pin that isn't among these
abbrev pub first_stray : List (List ℕ) → List RawUse → Option (List ℕ)
first_stray names [] = None
first_stray names (used ∷ more) = if has_name used.pin names then first_stray names more else Some used.pin

-- no connection is to a pin that the cell doesn't have
abbrev pub NoStray : Meaning → List RawUse → Type 0
NoStray meaning uses = (place : ℕ) (pin : List ℕ) → HasStrayPin meaning uses place pin → ⊥

-- no input pin is open
abbrev pub NoOpen : Meaning → List RawUse → Type 0
NoOpen meaning uses = (place : ℕ) (pin : List ℕ) → LacksPin meaning uses place pin → ⊥

-- the pin is that of the first such connection
pub record IsFirstStray (meaning : Meaning) (uses : List RawUse) (pin : List ℕ) : Type 0 where
  pub place : ℕ
  pub here : HasStrayPin meaning uses place pin
  pub none_before : (before : ℕ) (other : List ℕ) → before < place → HasStrayPin meaning uses before other → ⊥

-- the pin is the first that is open
pub record IsFirstOpen (meaning : Meaning) (uses : List RawUse) (pin : List ℕ) : Type 0 where
  pub place : ℕ
  pub here : LacksPin meaning uses place pin
  pub none_before : (before : ℕ) (other : List ℕ) → before < place → LacksPin meaning uses before other → ⊥

-- what is reported about the first stray pin; where nothing is, there is none
abbrev pub ReportsStray : Meaning → List RawUse → Option (List ℕ) → Type 0
ReportsStray meaning uses (Some pin) = IsFirstStray meaning uses pin
ReportsStray meaning uses None = NoStray meaning uses

-- what is reported about the first open pin; where nothing is, there is none
abbrev pub ReportsOpen : Meaning → List RawUse → Option (List ℕ) → Type 0
ReportsOpen meaning uses (Some pin) = IsFirstOpen meaning uses pin
ReportsOpen meaning uses None = NoOpen meaning uses

-- the first instances of the netlist keep their rules
abbrev pub AreSoundFirst : ℕ → RawNetlist → List Named → List ScanRow → Type 0
AreSoundFirst count raw library scan =
    (u : ℕ) (instance : RawInstance) → u < count → slice_get raw.instances u ≡ Some instance
    → IsSound (meaning_of library scan instance.cell) instance.pins

-- the first rule that the instance u breaks; or there was no memory
abbrev pub IsInstanceCause : ℕ → Meaning → List RawUse → ChipFault → Type 0
IsInstanceCause u meaning uses (fault.UnknownCell v) = (v.0 ≡ u) × (meaning ≡ Unknown)
IsInstanceCause u meaning uses (fault.Cell v rule) = (v.0 ≡ u) × (meaning ≡ Broken rule)
IsInstanceCause u meaning uses (fault.UnknownPin v pin) =
    (v.0 ≡ u) × IsKnown meaning × IsFirstStray meaning uses pin
IsInstanceCause u meaning uses (fault.MissingPin v pin) =
    (v.0 ≡ u) × IsKnown meaning × NoStray meaning uses × IsFirstOpen meaning uses pin
IsInstanceCause u meaning uses (fault.DoubleDriven net first second) = ⊥
IsInstanceCause u meaning uses (fault.Undriven net) = ⊥
IsInstanceCause u meaning uses (fault.ControlPin v pin) = ⊥
IsInstanceCause u meaning uses (fault.ControlObserved net) = ⊥
IsInstanceCause u meaning uses (fault.QnUsed v) = ⊥
IsInstanceCause u meaning uses (fault.Loop instances) = ⊥
IsInstanceCause u meaning uses (fault.TooManyInstances count) = ⊥
IsInstanceCause u meaning uses (fault.TooManyInputs count) = ⊥
IsInstanceCause u meaning uses (fault.TooManyOutputs count) = ⊥
IsInstanceCause u meaning uses (fault.TooManyDefects count) = ⊥
IsInstanceCause u meaning uses fault.NoMemory = ⊤
