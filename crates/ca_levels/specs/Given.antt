-- Which strengths the nodes of a network give to paths, and which its devices have.
use Rattle.std.specs.Prelude.{ℕ, Bool, false, ◌≡◌, ◌≢◌, ◌<◌, List, length, slice_index, slice_get, Some}
use Rattle.ca_net.specs.declared.device.Device.{Device}

-- no node gives this strength to paths
abbrev pub IsGivenByNone : List ℕ → ℕ → Type 0
IsGivenByNone own level = (n : ℕ) → n < length own → slice_index own n ≢ level

-- no device has this strength
abbrev pub IsCarriedByNone : List Device → ℕ → Type 0
IsCarriedByNone devices level = (i : ℕ) (d : Device) → slice_get devices i ≡ Some d → d.strength ≢ level

-- where one of the first strengths is marked by false, no node gives it
abbrev pub AreGiven : ℕ → List ℕ → List Bool → Type 0
AreGiven count own given =
    (level : ℕ) → level < count → slice_get given level ≡ Some false → IsGivenByNone own level

-- and so for those of devices
abbrev pub AreCarried : ℕ → List Device → List Bool → Type 0
AreCarried count devices carried =
    (level : ℕ) → level < count → slice_get carried level ≡ Some false → IsCarriedByNone devices level
