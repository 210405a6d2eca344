-- Words of the code beside those of `specs/Mos.antt`. Private functions and proofs cite them.
use Rattle.std.specs.Prelude.{ℕ, ◌≡◌, ◌≤◌, ◌^◌, false}
use Rattle.ca_cell.specs.Devices.{has_gate}
use Rattle.ca_spice.specs.Mos.{Wiring}

-- a wiring without a gate has its drain as its gate
abbrev pub IsWiring : Wiring → Type 0
IsWiring wiring = has_gate wiring.kind ≡ false → wiring.gate ≡ wiring.drain

-- a width and a length that were read
abbrev pub AreSizes : ℕ → ℕ → Type 0
AreSizes width length = (width ≤ 10 ^ 24) × (length ≤ 10 ^ 24)
