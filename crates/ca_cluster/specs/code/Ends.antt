-- The ends of a bridge as code finds them: only the proofs of the code cite this.
use Rattle.std.specs.Prelude.{ℕ, ◌⊎◌, IsSomeAnd, slice_get}
use Rattle.std.specs.List.{Contains}
use Rattle.ca_flat.specs.Chip.{Chip}
use Rattle.ca_linked.specs.Linked.{LinkedChip, gate_outputs}
use Rattle.ca_merged.specs.Members.{DrivesEnd, IsAtEnd}

-- an output pin of the library instance x is on the net
abbrev pub IsOnOutput : LinkedChip → ℕ → ℕ → Type 0
IsOnOutput chip net x = IsSomeAnd (slice_get chip.parts x) (λ part. Contains (gate_outputs part.body) net)

-- the node n of the instance u, as an end of a bridge, makes x a member
abbrev pub MakesMember : Chip → ℕ → ℕ → ℕ → Type 0
MakesMember chip u n x = DrivesEnd chip u n x ⊎ IsAtEnd chip u n x
