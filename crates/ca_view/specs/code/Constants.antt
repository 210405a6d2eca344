-- Words of the code beside those of `specs/Constants.antt`. Private functions and proofs cite them.
use Rattle.std.specs.Prelude.{List, [], ◌∷◌, Option, Some, None}
use Rattle.ca_flat.specs.Chip.{Constant}
use Rattle.ca_view.specs.declared.constants.FixedNet.{FixedNet}
use Rattle.ca_view.specs.Constants.{constant_of}

-- one, if there is one
abbrev pub fixed_of : Option FixedNet → List Constant
fixed_of None = []
fixed_of (Some fixed) = constant_of fixed ∷ []
