-- The rules on instances: the cell is known and sound, each connection is to a pin of it, and each input pin
-- is connected.
use Rattle.std.specs.Prelude.{ℕ, ◌≡◌, false, List, ◌++◌, Some, None, slice_get, ⊤}
use Rattle.ca_names.specs.Names.{has_name}
use Rattle.ca_cell.specs.Library.{Named}
use Rattle.ca_verilog.specs.declared.raw.RawUse.{RawUse}
use Rattle.ca_verilog.specs.declared.raw.RawInstance.{RawInstance}
use Rattle.ca_verilog.specs.declared.raw.RawNetlist.{RawNetlist}
use Rattle.ca_wiring.specs.declared.scan_row.ScanRow.{ScanRow}
use Rattle.ca_wiring.specs.Wiring.{Meaning, Unknown, Broken, Library, ScanCell, meaning_of, input_names}
use Rattle.ca_wiring.specs.Wiring.{output_names, bit_on}

-- the names of the pins that a netlist may connect: power and ground pins aren't among them
abbrev pub pin_names : Meaning → List (List ℕ)
pin_names meaning = input_names meaning ++ output_names meaning

-- the instance is of a cell that keeps its rules, or of a scan cell
abbrev pub IsKnown : Meaning → Type 0
IsKnown Unknown = ⊥
IsKnown (Broken rule) = ⊥
IsKnown (Library raw) = ⊤
IsKnown (ScanCell row) = ⊤

-- the connection at this place is to a pin that the cell doesn't have
pub record HasStrayPin (meaning : Meaning) (uses : List RawUse) (place : ℕ) (pin : List ℕ) : Type 0 where
  pub used : RawUse
  pub at : slice_get uses place ≡ Some used
  pub named : used.pin ≡ pin
  pub stray : has_name pin (pin_names meaning) ≡ false

-- the input pin at this place is absent or connected to nothing
pub record LacksPin (meaning : Meaning) (uses : List RawUse) (place : ℕ) (pin : List ℕ) : Type 0 where
  pub at : slice_get (input_names meaning) place ≡ Some pin
  pub is_open : bit_on uses pin ≡ None

-- the instance keeps its rules
pub record IsSound (meaning : Meaning) (uses : List RawUse) : Type 0 where
  pub known : IsKnown meaning
  pub no_stray : (place : ℕ) (pin : List ℕ) → HasStrayPin meaning uses place pin → ⊥
  pub no_open : (place : ℕ) (pin : List ℕ) → LacksPin meaning uses place pin → ⊥

-- each instance of the netlist keeps its rules
abbrev pub AreSound : RawNetlist → List Named → List ScanRow → Type 0
AreSound raw library scan = (u : ℕ) (instance : RawInstance) → slice_get raw.instances u ≡ Some instance
    → IsSound (meaning_of library scan instance.cell) instance.pins
