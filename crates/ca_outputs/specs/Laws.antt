-- The named outputs are the observed outputs of the chip.
use Rattle.std.specs.Prelude.{◌≡◌, map, length}
use Rattle.ca_linked.specs.Linked.{LinkedChip, outputs_of}
use Rattle.ca_outputs.specs.Outputs.{named_outputs, output_names}

-- the nets of the named outputs are those of the chip's observed outputs, in the same order
abbrev pub OutputsAreNamed : Type 0
OutputsAreNamed = (chip : LinkedChip) → map (λ output. output.net) (named_outputs chip) ≡ outputs_of chip

-- there are as many names as observed outputs
abbrev pub NamesAreAsManyAsOutputs : Type 0
NamesAreAsManyAsOutputs = (chip : LinkedChip) → length (output_names chip) ≡ length (outputs_of chip)
