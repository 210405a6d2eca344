-- Two links of the same inputs. They may differ in the order of their library instances alone, and in which
-- of several places of the library with the same subcircuit an instance names.
use Rattle.std.specs.Prelude.{ℕ, ◌≡◌, length, Some, slice_get}
use Rattle.ca_cell.specs.declared.raw.RawCell.{RawCell}
use Rattle.ca_linked.specs.declared.parts.Body.{Body}
use Rattle.ca_linked.specs.declared.parts.Body.TheVariants.{Gate, Scan}
use Rattle.ca_linked.specs.declared.parts.Part.{Part}
use Rattle.ca_linked.specs.Linked.{LinkedChip}
use Rattle.ca_linked.specs.Instances.{IsCellOf}

-- both are of library cells, or both of scan cells, with the same nets at their pins
abbrev pub AreBodiesAlike : Body → Body → Type 0
AreBodiesAlike (Gate cell inputs outputs) (Gate other also_inputs also_outputs) =
    (inputs ≡ also_inputs) × (outputs ≡ also_outputs)
AreBodiesAlike (Gate cell inputs outputs) (Scan nets) = ⊥
AreBodiesAlike (Scan nets) (Gate cell inputs outputs) = ⊥
AreBodiesAlike (Scan nets) (Scan also_nets) = nets ≡ also_nets

-- the instances have the same names, and such bodies
pub record ArePartsAlike (part also : Part) : Type 0 where
  pub name : part.name ≡ also.name
  pub cell : part.cell ≡ also.cell
  pub data_pin : part.«data» ≡ also.«data»
  pub body : AreBodiesAlike part.body also.body

-- the chips have the same number of nets, the same ports, and such instances
pub record AreAlike (chip also : LinkedChip) : Type 0 where
  pub nets : chip.nets ≡ also.nets
  pub ports : chip.ports ≡ also.ports
  pub same_parts : length chip.parts ≡ length also.parts
  pub parts : (u : ℕ) (part other : Part) → slice_get chip.parts u ≡ Some part
      → slice_get also.parts u ≡ Some other → ArePartsAlike part other

-- each library instance is of the same subcircuit in both chips
abbrev pub HaveOneCell : LinkedChip → LinkedChip → Type 0
HaveOneCell chip also = (u : ℕ) (part other : Part) (raw : RawCell) → slice_get chip.parts u ≡ Some part
    → slice_get also.parts u ≡ Some other → IsCellOf chip.cells part.body raw
    → IsCellOf also.cells other.body raw
