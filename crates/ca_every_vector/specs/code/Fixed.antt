-- Words of the code: the values that constants give nets.
use Rattle.std.specs.Prelude.{ℕ, ◌≡◌, List, length}
use Rattle.ca_net.specs.declared.trit.Trit.{Trit}
use Rattle.ca_net.specs.declared.trit.Trit.TheVariants.{X}
use Rattle.ca_net.specs.State.{value_at}
use Rattle.ca_flat.specs.Chip.{Chip, Constant}
use Rattle.ca_flat.specs.Pair.{constant_value}

-- the value that a constant gives the net, or X
abbrev pub fixed_value : Chip → ℕ → Trit
fixed_value chip net = constant_value chip.constants X net

-- so many values, those that these constants give
pub record AreFixedBy (constants : List Constant) (count : ℕ) (values : List Trit) : Type 0 where
  pub room : length values ≡ count
  pub each : (net : ℕ) → value_at values net ≡ constant_value constants X net

-- for each net of the chip the value that a constant gives it, or X
abbrev pub AreFixed : Chip → List Trit → Type 0
AreFixed chip values = AreFixedBy chip.constants (length chip.nets) values
