-- What one level adds to the nodes that paths reach. Only the proofs of the code cite this.
use Rattle.std.specs.Prelude.{ℕ, Bool, true, false, ◌≡◌, ◌<◌, ◌≤◌, ◌⊎◌, ◌↔◌, List, length, Some, slice_get}
use Rattle.std.specs.Prelude.{slice_index}
use Rattle.ca_net.specs.declared.trit.Trit.{Trit}
use Rattle.ca_net.specs.declared.device.Device.{Device}
use Rattle.ca_net.specs.declared.path_kind.PathKind.{PathKind}
use Rattle.ca_relax.specs.code.Spread.{Passes}
use Rattle.ca_planes.specs.declared.block.Block.{Block}
use Rattle.ca_planes.specs.Plane.{lane_at}
use Rattle.ca_planes.specs.Trits.{state_in}
use Rattle.ca_levels.specs.code.Come.{RaisesSome, AreClosed}

-- paths of this kind may go through the device, which has at least this strength
abbrev pub IsPassing : Device → List Trit → PathKind → ℕ → Type 0
IsPassing d s kind level = (level ≤ d.strength) × Passes s kind d

-- the links of the first devices are the lanes in which paths may go through them
abbrev pub AreLinked : ℕ → List Device → Block → PathKind → ℕ → List ℕ → Type 0
AreLinked count devices from kind level links =
    (i : ℕ) (d : Device) (lane : ℕ) → i < count → lane < 64 → slice_get devices i ≡ Some d
    → (lane_at links i lane ≡ true) ↔ IsPassing d (state_in from lane) kind level

-- it was reached, or paths of exactly this strength begin there
abbrev pub IsBegun : ℕ → ℕ → Bool → Bool → Bool → Type 0
IsBegun own level source blocked reached =
    (reached ≡ true) ⊎ ((own ≡ level) × (source ≡ true) × (blocked ≡ false))

-- so it is for the first nodes in each lane
abbrev pub HaveBegun : ℕ → List ℕ → ℕ → List ℕ → List ℕ → List ℕ → List ℕ → Type 0
HaveBegun count own level source blocked old new =
    (n lane : ℕ) → n < count → (lane_at new n lane ≡ true)
    ↔ IsBegun (slice_index own n) level (lane_at source n lane) (lane_at blocked n lane) (lane_at old n lane)

-- what was reached is
abbrev pub StayReached : List ℕ → List ℕ → Type 0
StayReached old new = (n lane : ℕ) → lane_at old n lane ≡ true → lane_at new n lane ≡ true

-- paths began, and went on over these links
pub record IsSpread (devices : List Device) (own : List ℕ) (level : ℕ)
    (links source blocked old new : List ℕ) : Type 0 where
  pub first : List ℕ
  pub room : length first ≡ length own
  pub begun : HaveBegun (length own) own level source blocked old first
  pub raises : RaisesSome devices links blocked first new
  pub closed : AreClosed devices links blocked new

-- paths began, and went on over all links
pub record IsAdvanced (devices : List Device) (own : List ℕ) (from : Block) (kind : PathKind) (level : ℕ)
    (source blocked old new : List ℕ) : Type 0 where
  pub links : List ℕ
  pub linked : AreLinked (length devices) devices from kind level links
  pub spread : IsSpread devices own level links source blocked old new
