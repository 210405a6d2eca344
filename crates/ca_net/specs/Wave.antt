-- Waves: the three values of a node, and the vectors that waves of input nodes give.
use Rattle.std.specs.Prelude.{ℕ, ◌+◌, ◌≡◌, List, [], ◌∷◌, map}
use Rattle.ca_net.specs.declared.trit.Trit.{Trit}
use Rattle.ca_net.specs.declared.trit.Trit.TheVariants.{X}
use Rattle.ca_net.specs.declared.node.NodeKind.{NodeKind}
use Rattle.ca_net.specs.declared.node.NodeKind.TheVariants.{Input, Storage}
use Rattle.ca_net.specs.declared.wave.Wave.{Wave}
use Rattle.ca_net.specs.Trit.{IsBelow, meet_of}

-- the middle is at or below the first and the last
pub record IsWave (wave : Wave) : Type 0 where
  pub below_first : IsBelow wave.mid wave.first
  pub below_last : IsBelow wave.mid wave.last

-- the wave of an input that changes from one value to another, or keeps it
abbrev pub pair_of : Trit → Trit → Wave
pair_of first last = record { first = first; mid = meet_of first last; last = last }

-- the wave is that of an input that changes from its first value to its last, or keeps it
abbrev pub IsPair : Wave → Type 0
IsPair wave = wave.mid ≡ meet_of wave.first wave.last

-- how many of the nodes are input nodes
abbrev pub input_count : List NodeKind → ℕ
input_count [] = 0
input_count (Input ∷ kinds) = 1 + input_count kinds
input_count (Storage size ∷ kinds) = input_count kinds

-- Values that are given one per input node, in the order of the nodes, as a vector: each at the place of its
-- own node, and X at each storage node.
abbrev pub at_inputs : List NodeKind → List Trit → List Trit
at_inputs [] values = []
at_inputs (Storage size ∷ kinds) values = X ∷ at_inputs kinds values
at_inputs (Input ∷ kinds) [] = X ∷ at_inputs kinds []
at_inputs (Input ∷ kinds) (value ∷ values) = value ∷ at_inputs kinds values

-- the first values of waves
abbrev pub firsts : List Wave → List Trit
firsts waves = map (λ wave. wave.first) waves

-- the middle values of waves
abbrev pub mids : List Wave → List Trit
mids waves = map (λ wave. wave.mid) waves

-- the last values of waves
abbrev pub lasts : List Wave → List Trit
lasts waves = map (λ wave. wave.last) waves
