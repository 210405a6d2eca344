-- What `make` asks for, and why it asks for nothing.
use Rattle.std.specs.Prelude.{◌≡◌, ◌⊎◌, ℕ, Bool, List, []}
use Rattle.ca_cell.specs.Strength.{default_table}
use Rattle.ca_cell.specs.Library.{Named}
use Rattle.ca_verilog.specs.declared.raw.RawNetlist.{RawNetlist}
use Rattle.ca_linked.specs.Linked.{LinkedChip}
use Rattle.ca_credit.specs.declared.verdict.Verdict.{Verdict}
use Rattle.ca_credit.specs.Good.{IsGood}
use Rattle.ca_engine.specs.ChipTask.{task_of}
use Rattle.ca_fault.specs.declared.fault.Fault.{Fault}
use Rattle.ca_fault.specs.declared.fault.Fault.TheVariants.{NoMemory}
use Rattle.ca_make.specs.LibraryText.{library_text}
use Rattle.ca_make.specs.NetlistText.{netlist_text}
use Rattle.ca_load.specs.Texts.{IsLibraryOf, IsNetlistOf}
use Rattle.ca_load.specs.Chips.{IsChipOf}
use Rattle.ca_words.specs.Budget.{HasChipNumber}
use Rattle.ca_generating.specs.declared.making.TheConstants.{MAKE_BUDGET}
use Rattle.ca_on_chip.specs.OnChip.{IsPairsFault, IsPairsCause}

-- the chip is the one that the two texts of the generated chip of this number read as, without scan cells and
-- under the table that holds where none is named
pub record IsMadeChip (number : ℕ) (chip : LinkedChip) : Type 0 where
  pub library : List Named
  pub netlist : RawNetlist
  pub cells_read : IsLibraryOf library default_table library_text
  pub netlist_read : IsNetlistOf netlist (netlist_text number)
  pub is : IsChipOf (record { library = library; netlist = netlist; rows = [] }) chip

-- the pairs, their aims and the verdicts keep the promise for the generated chip of the number that a word
-- says
pub record AreMadeTests (number_word : List ℕ) (chip : LinkedChip) (pairs : List (List Bool)) (aims : List ℕ)
    (verdicts : List Verdict) : Type 0 where
  pub number : ℕ
  pub said : HasChipNumber number_word number
  pub is : IsMadeChip number chip
  pub good : IsGood (task_of chip MAKE_BUDGET) pairs aims verdicts

-- one pair more was found than may be listed
pub record IsMadeTooMany (number : ℕ) (fault : Fault) : Type 0 where
  pub pairs : IsPairsFault fault
  pub chip : LinkedChip
  pub is : IsMadeChip number chip
  pub cause : IsPairsCause MAKE_BUDGET fault chip

-- why a generated chip has no tests: there was no memory, or one pair more was found than may be listed
abbrev pub IsMakeStage : ℕ → Fault → Type 0
IsMakeStage number fault = (fault ≡ NoMemory) ⊎ IsMadeTooMany number fault

-- the same of the number that a word says
pub record IsMakeCause (number_word : List ℕ) (fault : Fault) : Type 0 where
  pub number : ℕ
  pub said : HasChipNumber number_word number
  pub stage : IsMakeStage number fault
