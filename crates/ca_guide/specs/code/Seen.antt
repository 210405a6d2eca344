-- Words of the code beside those of `specs/Seen.antt`. Private functions and proofs cite them.
use Rattle.std.specs.Prelude.{ℕ, ◌≡◌, ◌<◌}
use Rattle.std.specs.Prelude.{List, length, None, Some, slice_get}
use Rattle.ca_net.specs.declared.trit.Trit.{Trit}
use Rattle.ca_net.specs.declared.wave.Wave.{Wave}
use Rattle.ca_flat.specs.Chip.{Chip}
use Rattle.ca_flat.specs.Waves.{FlatWaves, wave_of}

-- these are the waves of the nets without a defect
abbrev pub AreGoodWaves : (chip : Chip) (pair : List Trit) → List Wave → FlatWaves chip None pair → Type 0
AreGoodWaves chip pair waves good =
    (net : ℕ) → net < length chip.nets → slice_get waves net ≡ Some (wave_of good net)
