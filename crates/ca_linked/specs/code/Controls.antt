-- Words of the code beside those of `specs/Controls.antt`. Private functions and proofs cite them.
use Rattle.std.specs.Prelude.{true, false}
use Rattle.ca_linked.specs.Linked.{LinkedChip, net_count, input_nets}
use Rattle.ca_linked.specs.declared.controls.LoadMarks.{LoadMarks}
use Rattle.ca_linked.specs.Paths.{is_among, is_on_port, AreMarks}

-- the marks of the nets that are on input pins, on input ports and on output ports; only the proofs of the
-- code cite this
pub record AreLoadMarks (chip : LinkedChip) (marks : LoadMarks) : Type 0 where
  pub pins_are : AreMarks (net_count chip) (is_among input_nets chip.parts) marks.pins
  pub inputs_are : AreMarks (net_count chip) (is_on_port chip true) marks.inputs
  pub outputs_are : AreMarks (net_count chip) (is_on_port chip false) marks.outputs
