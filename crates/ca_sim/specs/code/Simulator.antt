-- Words of the code beside those of `specs/Simulator.antt`. Private functions and proofs cite them.
use Rattle.std.specs.Prelude.{ℕ, ◌≡◌, ◌≤◌}
use Rattle.ca_sim.specs.Simulator.{counted_up}

-- one more was counted, and so it never falls
pub record CountsOne (old new : ℕ) : Type 0 where
  pub is : new ≡ counted_up old
  pub grows : old ≤ new
