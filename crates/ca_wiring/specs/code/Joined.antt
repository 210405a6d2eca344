-- Words of the code beside those of `specs/Joined.antt`. Private functions and proofs cite them.
use Rattle.std.specs.Prelude.{ℕ, ◌<◌}
use Rattle.ca_wiring.specs.declared.joined.Join.{Join}

-- each side of the join is one of this many wires
abbrev pub IsWithin : ℕ → Join → Type 0
IsWithin wires join = (join.left < wires) × (join.right < wires)
