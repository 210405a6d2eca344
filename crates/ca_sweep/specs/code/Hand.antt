-- What only proofs of code cite: the instance in hand, and what a finder keeps.
use Rattle.std.specs.Prelude.{ℕ, ◌≡◌, ◌<◌, true, List, length, slice_index_or, Option, None, Some}
use Rattle.ca_net.specs.declared.trit.Trit.{Trit}
use Rattle.ca_net.specs.declared.wave.Wave.{Wave}
use Rattle.ca_net.specs.State.{value_at}
use Rattle.ca_flat.specs.declared.chip_defect.ChipDefect.{ChipDefect}
use Rattle.ca_flat.specs.Chip.{Chip, cell_at}
use Rattle.ca_sweep.specs.declared.faulty.Faulty.{Faulty}
use Rattle.ca_sweep.specs.declared.hand.Hand.{Hand}
use Rattle.ca_sweep.specs.declared.row.Row.{Row}
use Rattle.ca_sweep.specs.declared.rows.Rows.{Rows}
use Rattle.ca_sweep.specs.declared.seen.Seen.{Seen}
use Rattle.ca_sweep.specs.Seen.{Swept}
use Rattle.ca_sweep.specs.code.Faulty.{AreFaulty, AreWavesAt}
use Rattle.ca_sweep.specs.code.Rows.{AreGoodsAt, AreRows, IsCoded, IsRowOf}
use Rattle.ca_sweep.specs.code.Coded.{IsSeenCoded}

-- the number is that of the cell of the instance in hand, the slot that for the waves of its input nets, the
-- ends are the good last values of its output nets, and the answers are true
pub record IsTaken (chip : Chip) (number_of : ℕ → ℕ) (goods : ℕ → Trit) (waves : List Wave)
    (slots : List (Option Row)) (hand : Hand) : Type 0 where
  pub number_is : hand.number ≡ number_of hand.instance
  pub within : hand.slot < length slots
  pub pins : List Wave
  pub pins_are : AreWavesAt chip waves hand.instance pins
  pub row : IsRowOf (cell_at chip hand.instance) pins (slice_index_or slots hand.slot None)
  pub goods_are : AreGoodsAt chip goods hand.instance hand.goods
  pub answers : (code : ℕ) (seen : Seen) → slice_index_or hand.answers.items code None ≡ Some seen
      → IsSeenCoded chip goods hand.instance code seen

-- so it is where an instance is in hand
abbrev pub IsHand : Chip → (ℕ → ℕ) → (ℕ → Trit) → List Wave → List (Option Row) → Hand → Type 0
IsHand chip number_of goods waves slots hand =
    hand.is_full ≡ true → IsTaken chip number_of goods waves slots hand

-- this instance is in hand
pub record IsTakenAt (chip : Chip) (number_of : ℕ → ℕ) (goods : ℕ → Trit) (waves : List Wave)
    (slots : List (Option Row)) (hand : Hand) (u : ℕ) : Type 0 where
  pub taken : IsTaken chip number_of goods waves slots hand
  pub instance_is : hand.instance ≡ u

-- the code is that of what the defect's cell gives for the waves of its instance's input nets
pub record IsCodedAt (chip : Chip) (waves : List Wave) (defect : ChipDefect) (code : ℕ) : Type 0 where
  pub pins : List Wave
  pub pins_are : AreWavesAt chip waves defect.instance pins
  pub coded : IsCoded (cell_at chip defect.instance) defect.defect pins code

-- what a finder keeps: its sweep is of the chip, it has a wave for each net, and what is kept is true
pub record IsFinder (chip : Chip) (places : List ℕ) (place_of number_of : ℕ → ℕ) (swept : Swept)
    (faulty : Faulty) (rows : Rows) (waves : List Wave) (hand : Hand) : Type 0 where
  pub chip_is : swept.chip ≡ chip
  pub places_are : swept.places ≡ places
  pub faulty_are : AreFaulty chip place_of number_of faulty
  pub rows_are : AreRows chip place_of number_of rows
  pub room : length waves ≡ length chip.nets
  pub hand_is : IsHand chip number_of (value_at swept.lasts) waves rows.slots.items hand
