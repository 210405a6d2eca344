-- Which library instances read a net.
use Rattle.std.specs.Prelude.{ℕ, ◌↔◌, List, IsSomeAnd, slice_get}
use Rattle.std.specs.List.{Contains}
use Rattle.ca_linked.specs.Linked.{LinkedChip, gate_inputs}

-- an input pin of the library instance u is on the net
abbrev pub Reads : LinkedChip → ℕ → ℕ → Type 0
Reads chip u net = IsSomeAnd (slice_get chip.parts u) (λ part. Contains (gate_inputs part.body) net)

-- the list has the library instances that read the net
abbrev pub AreReadersOf : LinkedChip → ℕ → List ℕ → Type 0
AreReadersOf chip net list = (u : ℕ) → Contains list u ↔ Reads chip u net
