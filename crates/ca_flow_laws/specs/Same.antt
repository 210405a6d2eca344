-- The faults of what a command was given, and when two of them are one.
use Rattle.std.specs.Prelude.{◌≡◌, ◌⊎◌, ⊤}
use Rattle.ca_wiring.specs.declared.fault.ChipFault.TheVariants as rule
use Rattle.ca_fault.specs.declared.fault.Fault.{Fault}
use Rattle.ca_fault.specs.declared.fault.Fault.TheVariants.{BadWords, Strengths, Cells, Netlist, Scan}
use Rattle.ca_fault.specs.declared.fault.Fault.TheVariants.{Chip, Chain, NoCell, Cell, BadVector, NoInstance}
use Rattle.ca_fault.specs.declared.fault.Fault.TheVariants.{NoDefect}
use Rattle.ca_fault.specs.declared.fault.Fault.TheVariants.{Order, Stil, StilChip, Expected, Log, TooLong}
use Rattle.ca_fault.specs.declared.fault.Fault.TheVariants.{Cert, CertChip, TooManyPairs, Limit, StoreFailed}
use Rattle.ca_fault.specs.declared.fault.Fault.TheVariants.{SinkFailed}
use Rattle.ca_fault.specs.declared.fault.Fault.TheVariants.{NoMemory}

-- the faults of what a command was given: of its words, and of the contents and the size of its files
abbrev pub IsInputFault : Fault → Type 0
IsInputFault BadWords = ⊤
IsInputFault (Strengths row) = ⊤
IsInputFault (Cells line kind) = ⊤
IsInputFault (Netlist line kind) = ⊤
IsInputFault (Scan row) = ⊤
IsInputFault (Chip rule place) = ⊤
IsInputFault (Chain name) = ⊤
IsInputFault (NoCell word) = ⊤
IsInputFault (Cell cell rule place) = ⊤
IsInputFault (BadVector word) = ⊤
IsInputFault (NoInstance word) = ⊤
IsInputFault (NoDefect word) = ⊤
IsInputFault (Order line) = ⊤
IsInputFault (Stil line) = ⊤
IsInputFault StilChip = ⊤
IsInputFault (Expected pair output) = ⊤
IsInputFault (Log row) = ⊤
IsInputFault (Cert line) = ⊤
IsInputFault (CertChip claims) = ⊤
IsInputFault (TooLong name taken) = ⊤
IsInputFault (TooManyPairs pairs aims) = ⊥
IsInputFault (Limit kind count) = ⊤
IsInputFault (StoreFailed name) = ⊥
IsInputFault SinkFailed = ⊥
IsInputFault NoMemory = ⊥

-- the faults of calls and of memory: a call of the store or of the output failed, or there was no memory
abbrev pub IsCallFault : Fault → Type 0
IsCallFault (StoreFailed name) = ⊤
IsCallFault SinkFailed = ⊤
IsCallFault NoMemory = ⊤
IsCallFault _ = ⊥

-- both faults report a loop of a chip; of several loops any may be reported
abbrev pub AreLoops : Fault → Fault → Type 0
AreLoops (Chip (rule.Loop instances) place) (Chip (rule.Loop others) other) = ⊤
AreLoops _ _ = ⊥

-- the faults are one, or both report a loop
abbrev pub IsSame : Fault → Fault → Type 0
IsSame fault other = (fault ≡ other) ⊎ AreLoops fault other
