-- Where the links of devices lead in a lane, and how planes rise to that. Only the proofs of the code cite
-- this.
use Rattle.std.specs.Prelude.{ℕ, Bool, true, false, ◌≡◌, ◌+◌, ◌<◌, ◌≤◌, ◌&&◌, ◌||◌, not, List, length, Some}
use Rattle.std.specs.Prelude.{slice_get, slice_index, slice_set, sum}
use Rattle.ca_net.specs.declared.device.Device.{Device}
use Rattle.ca_net.specs.Conduction.{Links}
use Rattle.ca_planes.specs.Plane.{has_lane, lane_at}

-- in the lane the node is one of the first, or a device whose link has the lane leads there from such a node,
-- through nodes that aren't blocked
pub data Comes (devices : List Device) (links blocked first : List ℕ) (lane : ℕ) : ℕ → Type 0 where
  Begins : {n : ℕ} → lane_at first n lane ≡ true → Comes devices links blocked first lane n
  Onward : {n : ℕ} (m i : ℕ) (d : Device) → Comes devices links blocked first lane m
      → slice_get devices i ≡ Some d → lane_at links i lane ≡ true → Links d m n
      → lane_at blocked n lane ≡ false
      → Comes devices links blocked first lane n

-- each lane of a node is one in which it comes from the first
abbrev pub AreCome : List Device → List ℕ → List ℕ → List ℕ → List ℕ → Type 0
AreCome devices links blocked first reached =
    (lane n : ℕ) → lane_at reached n lane ≡ true → Comes devices links blocked first lane n

-- the link led from one node to another
pub record Leads (link from to : ℕ) (blocked old new : List ℕ) (rose : Bool) : Type 0 where
  pub word : ℕ
  pub put : new ≡ slice_set old to word
  pub lanes : (lane : ℕ) → has_lane word lane
      ≡ (lane_at old to lane
      || (lane_at old from lane && (has_lane link lane && not (lane_at blocked to lane))))
  pub more : slice_index old to ≤ word
  pub rises : rose ≡ true → slice_index old to < word
  pub same : rose ≡ false → word ≡ slice_index old to

-- nodes may have more lanes, each of which comes
pub record RaisesSome (devices : List Device) (links blocked old new : List ℕ) : Type 0 where
  pub room : length new ≡ length old
  pub kept : (lane n : ℕ) → lane_at old n lane ≡ true → lane_at new n lane ≡ true
  pub come : (first : List ℕ) → AreCome devices links blocked first old
      → AreCome devices links blocked first new
  pub more : sum old ≤ sum new

-- nodes have more lanes, or none has
pub record Raises (devices : List Device) (links blocked old new : List ℕ) (rose : Bool) : Type 0 where
  pub some : RaisesSome devices links blocked old new
  pub rises : rose ≡ true → sum old < sum new
  pub same : rose ≡ false → new ≡ old

-- over the device at this place nothing comes that isn't there
abbrev pub IsClosedAt : List Device → List ℕ → List ℕ → List ℕ → ℕ → Type 0
IsClosedAt devices links blocked reached i =
    (d : Device) (lane m n : ℕ) → slice_get devices i ≡ Some d → lane_at links i lane ≡ true → Links d m n
    → lane_at blocked n lane ≡ false → lane_at reached m lane ≡ true → lane_at reached n lane ≡ true

-- where nothing rose, so it is
abbrev pub LeadsNoMore : List Device → List ℕ → List ℕ → List ℕ → Bool → ℕ → Type 0
LeadsNoMore devices links blocked reached rose i =
    rose ≡ false → IsClosedAt devices links blocked reached i

-- over no device does anything come that isn't there
abbrev pub AreClosed : List Device → List ℕ → List ℕ → List ℕ → Type 0
AreClosed devices links blocked reached =
    (i : ℕ) → i < length devices → IsClosedAt devices links blocked reached i

-- nodes may have more lanes; where none has, nothing more comes
pub record IsRound (devices : List Device) (links blocked old new : List ℕ) (rose : Bool) : Type 0 where
  pub some : RaisesSome devices links blocked old new
  pub rises : rose ≡ true → sum old < sum new
  pub closed : rose ≡ false → AreClosed devices links blocked new

-- so are two planes of each node, or one has more lanes somewhere
pub record RaiseBoth (devices : List Device) (links blocked zeros new_zeros ones new_ones : List ℕ)
    (rose : Bool) : Type 0 where
  pub zeros_raise : RaisesSome devices links blocked zeros new_zeros
  pub ones_raise : RaisesSome devices links blocked ones new_ones
  pub rises : rose ≡ true → sum zeros + sum ones < sum new_zeros + sum new_ones
  pub zeros_closed : rose ≡ false → AreClosed devices links blocked new_zeros
  pub ones_closed : rose ≡ false → AreClosed devices links blocked new_ones

-- over links none of which has a lane nothing comes
abbrev pub AreIdle : List Device → List ℕ → List ℕ → Type 0
AreIdle devices links blocked = (reached : List ℕ) → AreClosed devices links blocked reached
