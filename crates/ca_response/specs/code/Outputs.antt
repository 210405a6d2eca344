-- Words of the code beside those of `specs/Outputs.antt`. Private functions and proofs cite them.
use Rattle.std.specs.Prelude.{List, ◌∷◌}
use Rattle.ca_net.specs.declared.trit.Trit.TheVariants.{Zero, One}
use Rattle.ca_net.specs.declared.wave.Wave.{Wave}
use Rattle.ca_net.specs.Wave.{pair_of}

-- the waves of the input nodes: power is 1, ground is 0, and the input pins have these
abbrev pub with_rails : List Wave → List Wave
with_rails pins = pair_of One One ∷ pair_of Zero Zero ∷ pins
