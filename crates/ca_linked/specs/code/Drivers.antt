-- Words of the code beside those of `specs/Drivers.antt`. Private functions and proofs cite them.
use Rattle.std.specs.Prelude.{ℕ, ◌≡◌, ◌<◌, Bool, true, false, List, length, Option, Some, None}
use Rattle.ca_linked.specs.declared.drivers.Sources.{Sources}
use Rattle.ca_linked.specs.Linked.{Source, FromConstant, FromPin, LinkedChip, net_count}
use Rattle.ca_linked.specs.Linked.{Drives}
use Rattle.ca_linked.specs.Drivers.{ComesBefore, AreFirst, sources_at, IsSingle}

-- for each net the first two of those that drive it
pub record AreDrivers (chip : LinkedChip) (table : List Sources) : Type 0 where
  pub count : length table ≡ net_count chip
  pub first : (net : ℕ) → net < net_count chip → AreFirst (Drives chip net) (sources_at table net).first
      (sources_at table net).second

-- a later one is noted
abbrev pub noted_second : Source → Source → Option Source → Sources
noted_second source first None = record { first = Some first; second = Some source }
noted_second source first (Some second) = record { first = Some first; second = Some second }

-- each net has one driver
abbrev pub AreAllSingle : List Sources → Type 0
AreAllSingle table = (net : ℕ) → net < length table → IsSingle (sources_at table net)

-- nothing drives the net, or two do, and each net before it has one driver
pub record IsFirstFlaw (table : List Sources) (net : ℕ) : Type 0 where
  pub within : net < length table
  pub flawed : IsSingle (sources_at table net) → ⊥
  pub none_before : (before : ℕ) → before < net → IsSingle (sources_at table before)

-- what is noted, with one more that drives the net
abbrev pub noted : Source → Option Source → Option Source → Sources
noted source None second = record { first = Some source; second = None }
noted source (Some first) second = noted_second source first second

-- of those that were seen so far, the first two that drive each net
pub record AreNoted (chip : LinkedChip) (Seen : ℕ → Source → Type 0) (table : List Sources) : Type 0 where
  pub count : length table ≡ net_count chip
  pub first : (net : ℕ) → net < net_count chip
      → AreFirst (λ source. Drives chip net source × Seen net source) (sources_at table net).first
      (sources_at table net).second

-- those before this one were seen
abbrev pub IsSeen : Source → ℕ → Source → Type 0
IsSeen bound net source = ComesBefore source bound

-- what comes next after a constant
abbrev pub after_constant : Bool → Source
after_constant false = FromConstant true
after_constant true = FromPin 0 0
