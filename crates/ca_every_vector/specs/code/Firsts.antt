-- The first values of waves. Private functions and proofs cite this.
use Rattle.std.specs.Prelude.{List, map}
use Rattle.ca_net.specs.declared.trit.Trit.{Trit}
use Rattle.ca_net.specs.declared.wave.Wave.{Wave}

-- the first values of waves
abbrev pub firsts_in : List Wave → List Trit
firsts_in waves = map (λ (wave : Wave). wave.first) waves
