-- What only proofs of code cite: marks of instances that are clear and pass flips on, and what a sweep keeps.
use Rattle.std.specs.Prelude.{ℕ, ◌+◌, ◌^◌, ◌≡◌, ◌≢◌, ◌<◌, Bool, true, List, length, Option}
use Rattle.ca_net.specs.declared.trit.Trit.{Trit}
use Rattle.ca_net.specs.declared.trit.Trit.TheVariants.{X}
use Rattle.ca_net.specs.declared.wave.Wave.{Wave}
use Rattle.ca_net.specs.State.{value_at}
use Rattle.ca_flat.specs.Chip.{Chip, cell_at, inputs_at, outputs_at, net_of, output_net, count_of}
use Rattle.ca_flips.specs.Static.{IsStatic}
use Rattle.ca_view.specs.Linked.{Reads, IsPlaced}
use Rattle.ca_sweep.specs.declared.values.Values.{Values}
use Rattle.ca_sweep.specs.declared.segments.Segments.{Segments}
use Rattle.ca_sweep.specs.Seen.{IsClear}
use Rattle.ca_sweep.specs.code.Segments.{AreSegments}
use Rattle.ca_sweep.specs.Tables.{AreTables, IsOrder, is_marked, AreMarks}
use Rattle.ca_sweep.specs.code.Firsts.{AreFirsts}
use Rattle.ca_sweep.specs.code.Held.{IsAtRest}
use Rattle.ca_sweep.specs.code.Pinned.{ArePinnedMarked}

-- the values of the instance's input nets are definite
abbrev pub AreDefinitePins : Chip → (ℕ → Trit) → ℕ → Type 0
AreDefinitePins chip goods w = (pin : ℕ) → pin < inputs_at chip w → goods (net_of chip w pin) ≢ X

-- a flip of an input net passes the instance on by last values alone: its cell is static, its input nets have
-- definite values, and it is clear
pub record IsPassing (chip : Chip) (goods : ℕ → Trit) (w : ℕ) : Type 0 where
  pub cell_static : IsStatic (cell_at chip w)
  pub pins : AreDefinitePins chip goods w
  pub clear : IsClear chip goods w

-- the cell of each instance with a place is static
abbrev pub AreAllStatic : Chip → (ℕ → ℕ) → Type 0
AreAllStatic chip place_of = (u : ℕ) → IsPlaced chip place_of u → IsStatic (cell_at chip u)

-- the values of all nets on the instance's pins are definite
abbrev pub ArePinsDefinite : Chip → (ℕ → Trit) → ℕ → Type 0
ArePinsDefinite chip goods w =
    (pin : ℕ) → pin < inputs_at chip w + outputs_at chip w → goods (net_of chip w pin) ≢ X

-- so they are at each instance with a place
abbrev pub AreAllDefinite : Chip → (ℕ → ℕ) → (ℕ → Trit) → Type 0
AreAllDefinite chip place_of goods = (w : ℕ) → IsPlaced chip place_of w → ArePinsDefinite chip goods w

-- all that read the net are marked
abbrev pub AreReadersMarked : Chip → List Bool → ℕ → Type 0
AreReadersMarked chip marks net = (w : ℕ) → Reads chip w net → is_marked marks w ≡ true

-- the value of each output net is definite, and all that read one are marked
abbrev pub AreOutputsClear : Chip → (ℕ → Trit) → List Bool → ℕ → ℕ → Type 0
AreOutputsClear chip goods marks u count =
    (output : ℕ) → output < count → (goods (output_net chip u output) ≢ X)
    × AreReadersMarked chip marks (output_net chip u output)

-- The nets of the observed outputs, the first outputs of nets, the tables of the cells, the instances by
-- their places, marks of the nets on pins, a value for each net, which instances are clear, and parts of
-- sweeps. Between two sweeps the values are the good ones.
pub record IsKept (chip : Chip) (place_of number_of : ℕ → ℕ) (outputs firsts : List ℕ)
    (tables : List (Option (List (List Wave)))) (is_static : Bool) (order : List (Option ℕ))
    (pinned : List Bool) (lasts : List Trit) (clear passing : List Bool) (values : Values)
    (segments : Segments) : Type 0 where
  pub outputs_are : outputs ≡ chip.outputs
  pub few : length outputs < 2 ^ 32
  pub firsts_are : AreFirsts outputs (length chip.nets) firsts
  pub tables_are : AreTables chip place_of number_of tables
  pub all_static : is_static ≡ true → AreAllStatic chip place_of
  pub order_is : IsOrder chip place_of order
  pub pinned_are : ArePinnedMarked chip place_of pinned
  pub pinned_room : length pinned ≡ length chip.nets
  pub nets : length lasts ≡ length chip.nets
  pub clear_are : AreMarks chip (IsClear chip (value_at lasts)) clear
  pub passing_are : length passing ≡ count_of chip
  pub values_are : IsAtRest chip lasts values
  pub segments_are : AreSegments chip place_of (value_at lasts) segments
