-- What only proofs of code cite: what cells with a defect give, kept for later.
use Rattle.std.specs.Prelude.{ℕ, ◌≡◌, ◌<◌, ◌↔◌, Bool, true, false, List, length}
use Rattle.std.specs.Prelude.{Option, None, Some}
use Rattle.std.specs.List.{All}
use Rattle.ca_net.specs.declared.trit.Trit.{Trit}
use Rattle.ca_net.specs.declared.wave.Wave.{Wave}
use Rattle.ca_net.specs.Wave.{IsWave}
use Rattle.ca_cell.specs.declared.defect.Defect.{Defect}
use Rattle.ca_cell.specs.List.{faulty_of}
use Rattle.ca_response.specs.Gives.{Gives, wave_at}
use Rattle.ca_flat.specs.Chip.{Chip, cell_at, inputs_at, outputs_at, net_of, output_net}
use Rattle.ca_flips.specs.Flips.{IsOpposite}
use Rattle.ca_view.specs.Linked.{IsPlaced}
use Rattle.ca_sim.specs.code.Cells.{AreCellRooms}
use Rattle.ca_sweep.specs.declared.faulty.Entry.{Entry}
use Rattle.ca_sweep.specs.declared.faulty.Faulty.{Faulty}
use Rattle.ca_sweep.specs.declared.seen.Flips.{Flips}
use Rattle.ca_sweep.specs.Seen.{is_flipped}

-- an entry has what its cell with its defect gives, at each instance with a cell of that number
abbrev pub HoldsTrue : Chip → (ℕ → ℕ) → (ℕ → ℕ) → Option Entry → Type 0
HoldsTrue chip place_of number_of None = Unit {0}
HoldsTrue chip place_of number_of (Some entry) =
    (u : ℕ) → IsPlaced chip place_of u → number_of u ≡ entry.number
    → Gives (cell_at chip u) (faulty_of (cell_at chip u) entry.defect) entry.pins.items entry.outputs.items

-- the entry is for this cell, defect and waves, and has these
pub record IsEntry (entry : Entry) (number : ℕ) (defect : Defect) (pins outputs : List Wave) : Type 0 where
  pub number_is : entry.number ≡ number
  pub defect_is : entry.defect ≡ defect
  pub pins_are : entry.pins.items ≡ pins
  pub outputs_are : outputs ≡ entry.outputs.items

-- there is room for the cells, and what is kept is true
pub record AreFaulty (chip : Chip) (place_of number_of : ℕ → ℕ) (faulty : Faulty) : Type 0 where
  pub rooms : AreCellRooms chip place_of number_of faulty.rooms.items
  pub slots : All (HoldsTrue chip place_of number_of) faulty.slots.items
  pub some : 0 < length faulty.slots.items

-- the number of a choice of output pins
abbrev pub code_of : Bool → Bool → ℕ
code_of false false = 0
code_of true false = 1
code_of false true = 2
code_of true true = 3

-- these are waves, those of the input nets of the instance
pub record AreWavesAt (chip : Chip) (waves : List Wave) (u : ℕ) (pins : List Wave) : Type 0 where
  pub count : length pins ≡ inputs_at chip u
  pub each : (pin : ℕ) → pin < inputs_at chip u → wave_at pins pin ≡ wave_at waves (net_of chip u pin)
  pub are_waves : All IsWave pins

-- an output pin is flipped exactly where its last value is opposite to the good one
abbrev pub AreFlipsOf : Chip → (ℕ → Trit) → ℕ → List Wave → Flips → Type 0
AreFlipsOf chip goods u outputs flips =
    (output : ℕ) → output < outputs_at chip u
    → (is_flipped flips output ≡ true)
    ↔ IsOpposite (goods (output_net chip u output)) (wave_at outputs output).last

-- so is one of them, where it is there
abbrev pub IsFlippedAt : Chip → (ℕ → Trit) → ℕ → List Wave → ℕ → Bool → Type 0
IsFlippedAt chip goods u outputs output flipped =
    output < outputs_at chip u
    → (flipped ≡ true) ↔ IsOpposite (goods (output_net chip u output)) (wave_at outputs output).last
