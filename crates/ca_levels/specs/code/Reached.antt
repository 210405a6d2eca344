-- Which nodes paths of more than some strength reach, as planes. Only the proofs of the code cite this.
use Rattle.std.specs.Prelude.{ℕ, ◌≡◌, ◌≢◌, ◌+◌, ◌<◌, ◌≤◌, ◌↔◌, true, List, length, slice_index}
use Rattle.ca_net.specs.declared.scale.TheConstants.{INPUT}
use Rattle.ca_net.specs.declared.trit.Trit.{Trit}
use Rattle.ca_net.specs.declared.device.Device.{Device}
use Rattle.ca_net.specs.declared.trit.Trit.TheVariants.{Zero, One}
use Rattle.ca_net.specs.declared.path_kind.PathKind.TheVariants.{Definite, Potential}
use Rattle.ca_net.specs.Circuit.{Circuit}
use Rattle.ca_net.specs.State.{value_at}
use Rattle.ca_net.specs.Response.{HasStronger}
use Rattle.ca_planes.specs.declared.block.Block.{Block}
use Rattle.ca_planes.specs.Plane.{lane_at}
use Rattle.ca_planes.specs.Trits.{state_in}
use Rattle.ca_levels.specs.declared.levels.Levels.{Levels}
use Rattle.ca_levels.specs.Levels.{HoldsNetwork}
use Rattle.ca_levels.specs.code.Come.{AreClosed, AreIdle}
use Rattle.ca_levels.specs.code.Way.{HasOther, AreThose}
use Rattle.ca_levels.specs.code.Advance.{AreLinked}

-- the planes have the lane where the value of a node isn't 1
abbrev pub AreNotOnes : Block → List ℕ → Type 0
AreNotOnes from planes =
    (n lane : ℕ) → n < length from.zeros.items → lane < 64
    → (lane_at planes n lane ≡ true) ↔ (value_at (state_in from lane) n ≢ One)

-- the room holds the network, and which values of the block aren't 1
pub record IsLoaded (net : Circuit) (from : Block) (levels : Levels) : Type 0 where
  pub holds : HoldsNetwork net levels
  pub not_ones : AreNotOnes from levels.not_ones.items

-- in the lane the planes are of the nodes to which a definite path is stronger than k, unless that is 0, and
-- of those that a path of another value than 1, or than 0, reaches that is stronger than k
pub record IsReachedIn (net : Circuit) (s : List Trit) (lane k : ℕ) (stronger zeros ones : List ℕ)
    : Type 0 where
  pub stronger_there : 0 < k → AreThose net lane (λ n. HasStronger net s n k) stronger
  pub not_one : AreThose net lane (λ n. HasOther net s One n k) zeros
  pub not_zero : AreThose net lane (λ n. HasOther net s Zero n k) ones

-- so it is in each lane
abbrev pub AreReached : Circuit → Block → ℕ → Levels → Block → Type 0
AreReached net from k levels out =
    (lane : ℕ) → lane < 64
    → IsReachedIn net (state_in from lane) lane k levels.stronger.items out.zeros.items out.ones.items

-- nodes as strong as an input node have what the others have, and all others what they had
pub record AreKept (count : ℕ) (own from old new : List ℕ) : Type 0 where
  pub input : (n : ℕ) → n < count → INPUT ≤ slice_index own n → slice_index new n ≡ slice_index from n
  pub storage : (n : ℕ) → n < count → slice_index own n < INPUT → slice_index new n ≡ slice_index old n

-- the links are those of the devices that are stronger than k, and nothing more comes over them; there are
-- none at first
pub record IsSpreadTo (devices : List Device) (from : Block) (k : ℕ) (levels : Levels) (out : Block)
    : Type 0 where
  pub potential : AreLinked (length devices) devices from Potential (k + 1)
      levels.potential.items
  pub definite : AreLinked (length devices) devices from Definite (k + 1)
      levels.definite.items
  pub zeros : AreClosed devices levels.potential.items levels.stronger.items out.zeros.items
  pub ones : AreClosed devices levels.potential.items levels.stronger.items out.ones.items
  pub stronger : 0 < k
      → AreClosed devices levels.definite.items levels.none.items levels.stronger.items
  pub potential_none : INPUT ≤ k
      → (blocked : List ℕ) → AreIdle devices levels.potential.items blocked
  pub definite_none : INPUT ≤ k
      → (blocked : List ℕ) → AreIdle devices levels.definite.items blocked
