-- Words of the code beside those of `specs/FaultLine.antt`. Private functions and proofs cite them.
use Rattle.std.specs.Prelude.{ℕ, List, ◌++◌}
use Rattle.ca_fault.specs.declared.fault.Fault.{Fault}
use Rattle.ca_fault.specs.declared.fault.Fault.TheVariants.{Strengths, Cells, Netlist, Scan}
use Rattle.ca_fault.specs.declared.fault.Fault.TheVariants.{Order, Stil, Expected, Log, Cert, CertChip, Limit}
use Rattle.ca_fault.specs.declared.three.FaultText.{FaultText}

-- the number in the text of a fault, and 0 where it has none
abbrev pub number_of : Fault → ℕ
number_of (Strengths row) = row
number_of (Cells line kind) = line
number_of (Netlist line kind) = line
number_of (Scan row) = row
number_of (Order line) = line
number_of (Stil line) = line
number_of (Expected pair output) = pair
number_of (Log row) = row
number_of (Cert line) = line
number_of (CertChip claims) = claims
number_of (Limit kind count) = count
number_of _ = 0

-- the number after it, and 0 where there is none
abbrev pub last_number_of : Fault → ℕ
last_number_of (Expected pair output) = output
last_number_of _ = 0

-- the parts of a text, one after the other
abbrev pub joined_of : FaultText → List ℕ
joined_of text = text.start.now ++ (text.word.now ++ (text.end.now ++ text.last.now))
