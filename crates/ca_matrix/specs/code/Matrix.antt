-- Words of the code beside those of `specs/Matrix.antt`. Private functions and proofs cite them.
use Rattle.std.specs.Prelude.{List}
use Rattle.ca_net.specs.declared.trit.Trit.{Trit}
use Rattle.ca_matrix.specs.declared.shape.Shape.{Shape}
use Rattle.ca_matrix.specs.Matrix.{Entries}

-- the matrix of a shape with these entries
abbrev pub matrix_of : Shape → List Trit → Entries
matrix_of shape entries = record {
  inputs = shape.inputs;
  outputs = shape.outputs;
  defects = shape.defects;
  entries = entries;
}
