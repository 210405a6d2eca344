-- What contracts see of a simulator.
use Rattle.std.specs.Prelude.{ℕ, ◌+◌, ◌-◌, ◌^◌, ◌≡◌, ◌≢◌, ◌<◌, ◌≤◌, List, length, slice_index, None}
use Rattle.std.specs.Prelude.{if◌then◌else◌, nat_lt}
use Rattle.ca_net.specs.declared.trit.Trit.{Trit}
use Rattle.ca_net.specs.State.{value_at}
use Rattle.ca_flat.specs.Chip.{Chip}
use Rattle.ca_flat.specs.Chain.{IsBitOf}
use Rattle.ca_flat.specs.Codes.{unset_pair}
use Rattle.ca_view.specs.Linked.{Reads}
use Rattle.ca_sim.specs.Seen.{Seen}

-- the waves and what they are of, how often an instance was evaluated, and how often was aimed
pub record Simulator : Type 0 where
  pub seen : Seen
  pub evaluated : ℕ
  pub aimed : ℕ

-- one more, up to the greatest number of 64 bits
abbrev pub counted_up : ℕ → ℕ
counted_up count = if nat_lt count (2 ^ 64 - 1) then count + 1 else 2 ^ 64 - 1

-- a simulator of the chip of which nothing was asked yet
pub record IsFresh (chip : Chip) (places : List ℕ) (sim : Simulator) : Type 0 where
  pub chip_is : sim.seen.chip ≡ chip
  pub places_are : sim.seen.places ≡ places
  pub pair : sim.seen.pair ≡ unset_pair chip
  pub aim : sim.seen.aim ≡ None
  pub evaluated : sim.evaluated ≡ 0
  pub aimed : sim.aimed ≡ 0

-- the chip is the same
pub record KeepsChip (old new : Simulator) : Type 0 where
  pub chip : new.seen.chip ≡ old.seen.chip
  pub places : new.seen.places ≡ old.seen.places

-- the defect stays, and how often was aimed
pub record KeepsAim (old new : Simulator) : Type 0 where
  pub chip : KeepsChip old new
  pub aim : new.seen.aim ≡ old.seen.aim
  pub aimed : new.aimed ≡ old.aimed

-- the bits stay
pub record KeepsPair (old new : Simulator) : Type 0 where
  pub chip : KeepsChip old new
  pub pair : new.seen.pair ≡ old.seen.pair

-- where a bit is given another value, of a chip input that an instance reads, at least one evaluation more is
-- counted
abbrev pub CountsReaders : Simulator → ℕ → Trit → Simulator → Type 0
CountsReaders old bit value new =
    (input u : ℕ) → input < length old.seen.chip.inputs → IsBitOf old.seen.chip input bit
    → Reads old.seen.chip u (slice_index old.seen.chip.inputs input) → value ≢ value_at old.seen.pair bit
    → counted_up old.evaluated ≤ new.evaluated

-- all that is seen stays, and how often was aimed
pub record KeepsSeen (old new : Simulator) : Type 0 where
  pub seen : new.seen ≡ old.seen
  pub aimed : new.aimed ≡ old.aimed
