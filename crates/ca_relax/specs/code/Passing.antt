-- The devices of a list that paths may go through, collected, and how strengths rise over them. Only the
-- proofs of the code cite this.
use Rattle.std.specs.Prelude.{ℕ, Bool, true, false, ◌||◌, ◌+◌, ◌≡◌, ◌<◌, ◌≤◌, List, Option, Some, slice_get}
use Rattle.ca_net.specs.declared.trit.Trit.{Trit}
use Rattle.ca_net.specs.declared.device.Device.{Device}
use Rattle.ca_net.specs.declared.path_kind.PathKind.{PathKind}
use Rattle.ca_relax.specs.declared.passing.Link.{Link}
use Rattle.ca_relax.specs.Groups.{IsListed}
use Rattle.ca_relax.specs.code.Spread.{Passes, Lifts, IsSpent}

-- what a device leads on
abbrev pub link_of : Device → Link
link_of d = record { a = d.a.0; b = d.b.0; strength = d.strength }

-- the link is that of a device of the list that begins at `first`, through which paths may go
pub record IsPassing (devices : List Device) (s : List Trit) (sureness : PathKind) (next : List (Option ℕ))
    (first : Option ℕ) (link : Link) : Type 0 where
  pub place : ℕ
  pub device : Device
  pub listed : IsListed next first place
  pub is_device : slice_get devices place ≡ Some device
  pub passes : Passes s sureness device
  pub same : link ≡ link_of device

-- the link of the device is among the first `count`
pub record IsAmong (count : ℕ) (links : List Link) (d : Device) : Type 0 where
  pub k : ℕ
  pub within : k < count
  pub there : slice_get links k ≡ Some (link_of d)

-- each of the first `count` links is that of a device of the list through which paths may go
abbrev pub ArePassing : List Device → List Trit → PathKind → List (Option ℕ) → Option ℕ → ℕ → List Link
    → Type 0
ArePassing devices s sureness next first count links =
    (k : ℕ) (link : Link) → k < count → slice_get links k ≡ Some link
    → IsPassing devices s sureness next first link

-- if paths may go through the device at this place, its link is among the first `count`
abbrev pub IsCollectedAt : List Device → List Trit → PathKind → ℕ → List Link → ℕ → Type 0
IsCollectedAt devices s sureness count links place =
    (d : Device) → slice_get devices place ≡ Some d → Passes s sureness d → IsAmong count links d

-- the first `count` links are those of the devices of the list through which paths may go
pub record AreCollected (devices : List Device) (s : List Trit) (sureness : PathKind)
    (next : List (Option ℕ)) (first : Option ℕ) (count : ℕ) (links : List Link) : Type 0 where
  pub only : ArePassing devices s sureness next first count links
  pub all : (place : ℕ) → IsListed next first place → IsCollectedAt devices s sureness count links place

-- both ends of each of the first `count` links are among `nodes` nodes
abbrev pub EndWithin : ℕ → ℕ → List Link → Type 0
EndWithin nodes count links =
    (k : ℕ) (link : Link) → k < count → slice_get links k ≡ Some link → (link.a < nodes) × (link.b < nodes)

-- both ends of a link were lifted, one after the other
pub record LiftsEnds (link : Link) (floor old new : List ℕ) (rose : Bool) : Type 0 where
  pub half : List ℕ
  pub forth : Bool
  pub back : Bool
  pub lifts_forth : Lifts link.strength link.a link.b floor old half forth
  pub lifts_back : Lifts link.strength link.b link.a floor half new back
  pub either : rose ≡ (forth || back)

-- the number of the last link at which a strength rose, counted from 1, after the link at this place too; 0
-- where none did
abbrev pub last_risen : Bool → ℕ → ℕ → ℕ
last_risen true place before = place + 1
last_risen false place before = before

-- both ends of each of the links from a place on were lifted, one link after another
pub data Sweeps (links : List Link) (floor old : List ℕ) (from : ℕ) : ℕ → List ℕ → ℕ → Type 0 where
  Begun : Sweeps links floor old from from old 0
  More : {place before after : ℕ} {mid new : List ℕ} {rose : Bool} (link : Link)
      → slice_get links place ≡ Some link → Sweeps links floor old from place mid before
      → LiftsEnds link floor mid new rose → after ≡ last_risen rose place before
      → Sweeps links floor old from (place + 1) new after

-- the link has nothing to raise at either end
abbrev pub IsLinkSpent : List ℕ → List ℕ → Link → Type 0
IsLinkSpent floor reached link =
    IsSpent link.strength link.a link.b floor reached × IsSpent link.strength link.b link.a floor reached

-- the links from one place on and before another have nothing to raise
abbrev pub AreSpent : List Link → List ℕ → ℕ → ℕ → List ℕ → Type 0
AreSpent links floor from to reached =
    (k : ℕ) (link : Link) → from ≤ k → k < to → slice_get links k ≡ Some link → IsLinkSpent floor reached link
