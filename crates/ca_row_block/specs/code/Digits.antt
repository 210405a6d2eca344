-- The value that a digit gives. Only the proofs of the code cite this.
use Rattle.std.specs.Prelude.{Bool, true, false}
use Rattle.ca_net.specs.declared.trit.Trit.{Trit}
use Rattle.ca_net.specs.declared.trit.Trit.TheVariants.{Zero, One}

-- 1 or 0
abbrev pub is_value : Bool → Trit
is_value true = One
is_value false = Zero
