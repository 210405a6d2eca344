-- The exit status and the line of a fault.
use Rattle.std.specs.Prelude.{ℕ, List, [], ◌∷◌, ◌++◌, codes, decimal}
use Rattle.ca_fault.specs.declared.fault.Fault.{Fault}
use Rattle.ca_fault.specs.declared.fault.Fault.TheVariants.{BadWords, Strengths, Cells, Netlist, Scan}
use Rattle.ca_fault.specs.declared.fault.Fault.TheVariants.{Chip, Chain, NoCell, Cell, BadVector, NoInstance}
use Rattle.ca_fault.specs.declared.fault.Fault.TheVariants.{NoDefect}
use Rattle.ca_fault.specs.declared.fault.Fault.TheVariants.{Order, Stil, StilChip, Expected, Log, TooLong}
use Rattle.ca_fault.specs.declared.fault.Fault.TheVariants.{Cert, CertChip}
use Rattle.ca_fault.specs.declared.fault.Fault.TheVariants.{TooManyPairs, Limit, StoreFailed, SinkFailed}
use Rattle.ca_fault.specs.declared.fault.Fault.TheVariants.{NoMemory}
use Rattle.ca_fault.specs.KindText.{kind_text, netlist_text, rule_text, chip_text, limit_text}
use Rattle.ca_fault.specs.KindText.{most_text}

-- the exit status that stands for a fault
abbrev pub status_of : Fault → ℕ
status_of BadWords = 1
status_of (Strengths row) = 2
status_of (Cells line kind) = 2
status_of (Netlist line kind) = 2
status_of (Scan row) = 2
status_of (Chip broken place) = 2
status_of (Chain name) = 2
status_of (NoCell word) = 2
status_of (Cell name rule place) = 2
status_of (BadVector word) = 2
status_of (NoInstance word) = 2
status_of (NoDefect word) = 2
status_of (Order line) = 2
status_of (Stil line) = 2
status_of StilChip = 2
status_of (Expected pair output) = 2
status_of (Log row) = 2
status_of (Cert line) = 2
status_of (CertChip claims) = 2
status_of (TooLong name taken) = 3
status_of (TooManyPairs pairs aims) = 3
status_of (Limit kind count) = 3
status_of (StoreFailed name) = 4
status_of SinkFailed = 4
status_of NoMemory = 5

-- what a fault prints between the program's name and the line's end
abbrev pub text_of : Fault → List ℕ
text_of BadWords = codes "bad command line"
text_of (Strengths row) = codes "strengths: record " ++ decimal row
text_of (Cells line kind) = codes "cells: line " ++ (decimal line ++ (codes ": " ++ kind_text kind))
text_of (Netlist line kind) = codes "netlist: line " ++ (decimal line ++ (codes ": " ++ netlist_text kind))
text_of (Scan row) = codes "scan table: record " ++ decimal row
text_of (Chip broken place) = codes "chip: " ++ chip_text broken
text_of (Chain name) = codes "scan chain broken at " ++ name
text_of (NoCell word) = codes "no cell " ++ word
text_of (Cell name rule place) = codes "cell " ++ (name ++ (codes ": " ++ rule_text rule))
text_of (BadVector word) = codes "bad vector: " ++ word
text_of (NoInstance word) = codes "no instance " ++ word
text_of (NoDefect word) = codes "no defect " ++ word
text_of (Order line) = codes "order: line " ++ decimal line
text_of (Stil line) = codes "stil: line " ++ decimal line
text_of StilChip = codes "stil: other chip"
text_of (Expected pair output) =
    codes "expected value: pair " ++ (decimal pair ++ (codes " output " ++ decimal output))
text_of (Log row) = codes "log: record " ++ decimal row
text_of (Cert line) = codes "certificate: line " ++ decimal line
text_of (CertChip claims) = codes "certificate: " ++ (decimal claims ++ codes " claims")
text_of (TooLong name taken) = codes "file too long: " ++ name
text_of (TooManyPairs pairs aims) = codes "too many pairs"
text_of (Limit kind count) = codes "limit: " ++ (limit_text kind ++ (codes " " ++ decimal count))
text_of (StoreFailed name) = codes "file fault: " ++ name
text_of SinkFailed = codes "output fault"
text_of NoMemory = codes "out of memory"

-- the line of a fault
abbrev pub line_of : Fault → List ℕ
line_of fault = codes "cellaware: " ++ (text_of fault ++ codes "\n")

-- a line of its own, after two blanks; nothing where there is no text
abbrev pub indented : List ℕ → List ℕ
indented [] = []
indented (letter ∷ letters) = codes "  " ++ ((letter ∷ letters) ++ codes "\n")

-- the line with the names of what a fault carries, and nothing where it carries none: its place, or how much
-- there is and may be
abbrev pub place_line : Fault → List ℕ
place_line (Chip broken place) = indented place
place_line (Cell name rule place) = indented place
place_line (Limit kind count) = codes "  " ++ (decimal count ++ (most_text kind ++ codes "\n"))
place_line _ = []

-- the lines that report a fault
abbrev pub lines_of : Fault → List ℕ
lines_of fault = line_of fault ++ place_line fault
