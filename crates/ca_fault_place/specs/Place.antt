-- The place of a fault of linking: what names what the fault carries.
use Rattle.std.specs.Prelude.{ℕ, ◌-◌, ◌≡◌, ⊤, List, [], ◌∷◌, ◌++◌, take, length, slice_index}
use Rattle.std.specs.Prelude.{codes, decimal, nat_lt, if◌then◌else◌, Option, Some, None}
use Rattle.std.specs.List.{flat_map}
use Rattle.ca_lex.specs.Words.{upper_case}
use Rattle.ca_cell.specs.declared.library.Entry.{Entry}
use Rattle.ca_cell.specs.declared.raw.RawCell.{RawCell}
use Rattle.ca_cell.specs.declared.rule.CellRule.{CellRule}
use Rattle.ca_cell.specs.declared.rule.CellRule.TheVariants as rule
use Rattle.ca_cell.specs.declared.rule.TheConstants.{MOST_DEVICES, MOST_NODES, MOST_INPUTS, MOST_OUTPUTS}
use Rattle.ca_cell.specs.Library.{Named, raw_of, entry_of}
use Rattle.ca_verilog.specs.declared.raw.RawInstance.{RawInstance}
use Rattle.ca_verilog.specs.declared.raw.RawNetlist.{RawNetlist}
use Rattle.ca_wiring.specs.declared.scan_row.ScanRow.{ScanRow}
use Rattle.ca_wiring.specs.declared.fault.Driver.{Driver}
use Rattle.ca_wiring.specs.declared.fault.Driver.TheVariants as driver
use Rattle.ca_wiring.specs.declared.fault.ChipFault.{ChipFault}
use Rattle.ca_wiring.specs.declared.fault.ChipFault.TheVariants as fault
use Rattle.ca_wiring.specs.Wiring.{wiring_of}
use Rattle.ca_wiring.specs.Rules.{IsNetAt}
use Rattle.ca_fault_place.specs.Names.{instance_name, cell_name, input_pin_name, device_name, constant_name}
use Rattle.ca_fault_place.specs.Names.{wire_text}

-- a number of something, and how many there may be
abbrev pub count_text : ℕ → List ℕ → ℕ → List ℕ
count_text count what most = decimal count ++ (what ++ decimal most)

-- what a cell's rule carries: how many there are and may be, or the first device on an input pin
abbrev pub rule_text : RawCell → CellRule → List ℕ
rule_text raw rule.NoRail = []
rule_text raw (rule.TooManyDevices count) = count_text count (codes " devices, at most ") MOST_DEVICES
rule_text raw (rule.TooManyNodes count) = count_text count (codes " nodes, at most ") MOST_NODES
rule_text raw (rule.TooManyInputs count) = count_text count (codes " inputs, at most ") MOST_INPUTS
rule_text raw rule.NoOutput = []
rule_text raw (rule.TooManyOutputs count) = count_text count (codes " outputs, at most ") MOST_OUTPUTS
rule_text raw (rule.InputDrivesChannel pin device) =
    codes "pin " ++ (input_pin_name raw pin.0 ++ (codes ", device " ++ device_name raw device.0))

-- the instance at a place
abbrev pub instance_text : List RawInstance → ℕ → List ℕ
instance_text instances u = codes "instance " ++ instance_name instances u

-- the instance and its cell
abbrev pub cell_text : List RawInstance → ℕ → List ℕ
cell_text instances u = instance_text instances u ++ (codes ", cell " ++ cell_name instances u)

-- the instance and a pin
abbrev pub pin_text : List RawInstance → ℕ → List ℕ → List ℕ
pin_text instances u pin = instance_text instances u ++ (codes ", pin " ++ pin)

-- more after a comma, if there is more
abbrev pub after_comma : List ℕ → List ℕ
after_comma [] = []
after_comma (letter ∷ letters) = codes ", " ++ (letter ∷ letters)

-- the subcircuit of an entry breaks the rule
abbrev pub rule_in : Option Entry → CellRule → List ℕ
rule_in None broken = []
rule_in (Some entry) broken = rule_text (raw_of entry) broken

-- the instance, its cell, and what the rule carries that the cell breaks
abbrev pub refused_text : RawNetlist → List Named → ℕ → CellRule → List ℕ
refused_text raw library u broken =
    cell_text raw.instances u
    ++ after_comma (rule_in (entry_of library (upper_case (cell_name raw.instances u))) broken)

-- what drives a net
abbrev pub driver_text : List RawInstance → Driver → List ℕ
driver_text instances (driver.Port net) = codes "input port"
driver_text instances (driver.Constant value) = constant_name value
driver_text instances (driver.Pin u pin) = instance_name instances u.0 ++ (codes " " ++ pin)

-- the net of this name
abbrev pub net_text : List ℕ → List ℕ
net_text name = codes "net " ++ name

-- the net, and what drives it
abbrev pub double_text : List RawInstance → List ℕ → Driver → Driver → List ℕ
double_text instances name first second =
    net_text name
    ++ (codes ": " ++ (driver_text instances first ++ (codes ", " ++ driver_text instances second)))

-- an instance that another follows
abbrev pub arrow_text : List RawInstance → ℕ → List ℕ
arrow_text instances u = instance_name instances u ++ codes " -> "

-- the first of some instances, and none where there is none
abbrev pub first_name : List RawInstance → List ℕ → List ℕ
first_name instances [] = []
first_name instances (u ∷ more) = instance_name instances u

-- a loop, from its first instance to the first again; of a long one the first twenty, and how many there are
-- more
abbrev pub loop_text : List RawInstance → List ℕ → List ℕ
loop_text instances loop =
    if nat_lt 20 (length loop)
    then flat_map (arrow_text instances) (take 19 loop) ++ (instance_name instances (slice_index loop 19)
    ++ (codes " and " ++ (decimal (length loop - 20) ++ codes " more")))
    else flat_map (arrow_text instances) loop ++ first_name instances loop

-- the net is known by a wire, the earliest that it has, and the name of this wire makes the text
abbrev pub OfNet : RawNetlist → List Named → List ScanRow → ℕ → (List ℕ → List ℕ) → List ℕ → Type 0
OfNet raw library scan net text_of text =
    (wire : ℕ) × IsNetAt (wiring_of raw library scan) net wire × (text ≡ wire_text raw.buses wire text_of)

-- the fault isn't that of an instance's cell, whose names the library has
abbrev pub IsOfNetlist : ChipFault → Type 0
IsOfNetlist (fault.UnknownCell u) = ⊤
IsOfNetlist (fault.Cell u broken) = ⊥
IsOfNetlist (fault.UnknownPin u pin) = ⊤
IsOfNetlist (fault.MissingPin u pin) = ⊤
IsOfNetlist (fault.DoubleDriven net first second) = ⊤
IsOfNetlist (fault.Undriven net) = ⊤
IsOfNetlist (fault.ControlPin u pin) = ⊤
IsOfNetlist (fault.ControlObserved net) = ⊤
IsOfNetlist (fault.QnUsed u) = ⊤
IsOfNetlist (fault.Loop instances) = ⊤
IsOfNetlist (fault.TooManyInstances count) = ⊤
IsOfNetlist (fault.TooManyInputs count) = ⊤
IsOfNetlist (fault.TooManyOutputs count) = ⊤
IsOfNetlist (fault.TooManyDefects count) = ⊤
IsOfNetlist fault.NoMemory = ⊤

-- the text names what the fault carries, and is empty where the fault carries nothing
abbrev pub ReportsPlace : RawNetlist → List Named → List ScanRow → ChipFault → List ℕ → Type 0
ReportsPlace raw library scan (fault.UnknownCell u) text = text ≡ cell_text raw.instances u.0
ReportsPlace raw library scan (fault.Cell u broken) text = text ≡ refused_text raw library u.0 broken
ReportsPlace raw library scan (fault.UnknownPin u pin) text = text ≡ pin_text raw.instances u.0 pin
ReportsPlace raw library scan (fault.MissingPin u pin) text = text ≡ pin_text raw.instances u.0 pin
ReportsPlace raw library scan (fault.DoubleDriven net first second) text =
    OfNet raw library scan net.0 (λ name. double_text raw.instances name first second) text
ReportsPlace raw library scan (fault.Undriven net) text = OfNet raw library scan net.0 net_text text
ReportsPlace raw library scan (fault.ControlPin u pin) text = text ≡ pin_text raw.instances u.0 pin
ReportsPlace raw library scan (fault.ControlObserved net) text = OfNet raw library scan net.0 net_text text
ReportsPlace raw library scan (fault.QnUsed u) text = text ≡ cell_text raw.instances u.0
ReportsPlace raw library scan (fault.Loop instances) text = text ≡ loop_text raw.instances instances
ReportsPlace raw library scan (fault.TooManyInstances count) text = text ≡ []
ReportsPlace raw library scan (fault.TooManyInputs count) text = text ≡ []
ReportsPlace raw library scan (fault.TooManyOutputs count) text = text ≡ []
ReportsPlace raw library scan (fault.TooManyDefects count) text = text ≡ []
ReportsPlace raw library scan fault.NoMemory text = text ≡ []
