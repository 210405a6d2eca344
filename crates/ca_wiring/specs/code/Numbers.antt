-- Words of the code beside those of `specs/Numbers.antt`. Private functions and proofs cite them.
use Rattle.std.specs.Prelude.{ℕ, ◌≡◌, ◌<◌, ◌⊎◌, ◌↔◌}
use Rattle.ca_wiring.specs.Wiring.{Wiring}
use Rattle.ca_wiring.specs.Nets.{Driving, Drives, IsLoaded, IsNet}
use Rattle.ca_wiring.specs.Numbers.{WireMarks, earliest_of, IsUsed}

-- the marks say which nets have a driver or a load, and all nets are among the wires
pub record ReportsUsed (wiring : Wiring) (wires : ℕ) (marks : WireMarks) : Type 0 where
  pub used : (w : ℕ) → w < wires → earliest_of marks w ≡ w
      → IsUsed marks w ↔ (((driving : Driving) × Drives wiring w driving) ⊎ IsLoaded wiring w)
  pub within : (w : ℕ) → IsNet wiring w → w < wires
