-- The lines that report the work of a command on a chip.
use Rattle.std.specs.Prelude.{ℕ, zero, suc, List, [], ◌∷◌, ◌++◌, length, codes, decimal, Option, Some, None}
use Rattle.std.specs.Prelude.{slice_get, slice_index_or}
use Rattle.std.specs.List.{sum_by}
use Rattle.ca_cell.specs.declared.raw.RawCell.{RawCell}
use Rattle.ca_cell.specs.Nodes.{defect_count}
use Rattle.ca_linked.specs.declared.parts.Body.{Body}
use Rattle.ca_linked.specs.declared.parts.Body.TheVariants.{Gate, Scan}
use Rattle.ca_linked.specs.declared.parts.Part.{Part}
use Rattle.ca_linked.specs.Linked.{LinkedChip, cell_of, inputs_of, outputs_of}
use Rattle.ca_linked.specs.Instances.{gates_of, scans_of}
use Rattle.ca_net.specs.declared.trit.Trit.{Trit}
use Rattle.ca_net.specs.Trit.{letter_of}
use Rattle.ca_net.specs.Circuit.{Circuit}
use Rattle.ca_net.specs.State.{value_at}
use Rattle.ca_outputs.specs.Outputs.{output_names}

-- the number of defects of an instance: of the cell of a library instance, and none of a scan instance
abbrev pub body_defects : List RawCell → Body → ℕ
body_defects cells (Gate cell inputs outputs) = defect_count (cell_of cells cell)
body_defects cells (Scan nets) = 0

abbrev pub part_defects : List RawCell → Option Part → ℕ
part_defects cells None = 0
part_defects cells (Some part) = body_defects cells part.body

-- the number of defects of a chip: those of the cells of its library instances, taken together
abbrev pub chip_defects : LinkedChip → ℕ
chip_defects chip = sum_by (λ u. part_defects chip.cells (slice_get chip.parts u)) (gates_of chip)

-- the text with a label and a number after it
abbrev pub with_count : List ℕ → List ℕ → ℕ → List ℕ
with_count text label count = (text ++ label) ++ decimal count

-- the line that says how many library instances, scan instances, inputs, observed outputs, chains and
-- defects a chip has
abbrev pub check_text : LinkedChip → List (List ℕ) → List ℕ
check_text chip chains =
    let instances = with_count [] (codes "instances ") (length (gates_of chip)) in
    let scan = with_count instances (codes ", scan ") (length (scans_of chip)) in
    let inputs = with_count scan (codes ", inputs ") (length (inputs_of chip)) in
    let outputs = with_count inputs (codes ", outputs ") (length (outputs_of chip)) in
    let all = with_count outputs (codes ", chains ") (length chains) in
    with_count all (codes ", defects ") (chip_defects chip) ++ codes "\n"

-- the line that says how many nodes and devices a network has
abbrev pub flatten_text : Circuit → List ℕ
flatten_text net =
    with_count (with_count [] (codes "nodes ") (length net.nodes)) (codes ", devices ") (length net.devices)
    ++ codes "\n"

-- the line of an observed output: its name, and the letters of its values without the defect and with it
abbrev pub line_of_output : List ℕ → Trit → Trit → List ℕ
line_of_output name good faulty = name ++ (32 ∷ letter_of good ∷ 32 ∷ letter_of faulty ∷ codes "\n")

-- the line of the output at a place
abbrev pub output_line : List (List ℕ) → List Trit → List Trit → ℕ → List ℕ
output_line names good faulty o =
    line_of_output (slice_index_or names o []) (value_at good o) (value_at faulty o)

-- this many lines, one after the other
unfoldable pub lines_by : (ℕ → List ℕ) → ℕ → List ℕ
lines_by line zero = []
lines_by line (suc o) = lines_by line o ++ line o

-- one line for each observed output of a chip
abbrev pub simulate_text : LinkedChip → List Trit → List Trit → List ℕ
simulate_text chip good faulty =
    let names = output_names chip in lines_by (output_line names good faulty) (length names)

-- the line of an observed output: its name, an equals sign and the letter of its value
abbrev pub line_of_end : List ℕ → Trit → List ℕ
line_of_end name value = name ++ (61 ∷ letter_of value ∷ codes "\n")

-- the line of the output at a place
abbrev pub end_line : List (List ℕ) → List Trit → ℕ → List ℕ
end_line names values o = line_of_end (slice_index_or names o []) (value_at values o)

-- one line for each observed output of a chip
abbrev pub replay_text : LinkedChip → List Trit → List ℕ
replay_text chip values = let names = output_names chip in lines_by (end_line names values) (length names)
