-- Words of the code beside those of `specs/Chip.antt`. Private functions and proofs cite them.
use Rattle.std.specs.Prelude.{ℕ, ◌<◌}
use Rattle.ca_make.specs.declared.gate.Gate.{Gate}
use Rattle.ca_make.specs.declared.gate.Gate.TheVariants as gate

-- both inputs of a gate are among this many candidates
abbrev pub IsWithin : ℕ → Gate → Type 0
IsWithin candidates (gate.Inv a) = a < candidates
IsWithin candidates (gate.Nand2 a b) = (a < candidates) × (b < candidates)
IsWithin candidates (gate.Nor2 a b) = (a < candidates) × (b < candidates)
