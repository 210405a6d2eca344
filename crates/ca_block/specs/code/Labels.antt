-- How labels are found. Only the proofs of the code cite this.
use Rattle.std.specs.Prelude.{ℕ, ◌≡◌, ◌≢◌, ◌<◌, List, length, slice_index}
use Rattle.ca_net.specs.Circuit.{Circuit}
use Rattle.ca_relax.specs.code.Links.{HasOneLabel}
use Rattle.ca_block.specs.Groups.{AreWithin}

-- the label has become another, if it was this one
pub record IsRenamed (from to old new : ℕ) : Type 0 where
  pub that : old ≡ from → new ≡ to
  pub other : old ≢ from → new ≡ old

-- so have the labels of the first nodes
abbrev pub AreRenamed : ℕ → ℕ → ℕ → List ℕ → List ℕ → Type 0
AreRenamed count from to old new =
    (n : ℕ) → n < count → IsRenamed from to (slice_index old n) (slice_index new n)

-- nodes that had one label have one label
abbrev pub StayEqual : ℕ → List ℕ → List ℕ → Type 0
StayEqual nodes old new =
    (m n : ℕ) → m < nodes → n < nodes → slice_index old m ≡ slice_index old n
    → slice_index new m ≡ slice_index new n

-- so they have, and both ends of the device at this place have one, if they are storage nodes
pub record JoinsAt (net : Circuit) (i : ℕ) (old new : List ℕ) : Type 0 where
  pub within : AreWithin (length net.nodes) (length net.nodes) new
  pub equal : StayEqual (length net.nodes) old new
  pub one : HasOneLabel net new i
