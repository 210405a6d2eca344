-- The constants of the core as a table.
use Rattle.std.specs.Prelude.{List, map}
use Rattle.ca_flat.specs.Chip.{Constant}
use Rattle.ca_view.specs.declared.constants.FixedNet.{FixedNet}

-- the constant that an input net has
abbrev pub constant_of : FixedNet → Constant
constant_of fixed = record { net = fixed.net; value = fixed.value }

-- these as a list of constants
abbrev pub constants_of : List FixedNet → List Constant
constants_of list = map constant_of list
