-- Generated chips, from what was read and linked.
use Rattle.std.proofs.Common.{ℕ, ◌≡◌, ◌≤◌, ◌⊎◌, inl, inr, List, [], map}
use Rattle.std.specs.List.{All}
use Rattle.ca_cell.specs.Library.{IsEntry, raw_of}
use Rattle.ca_wiring.specs.Wiring.{wiring_of}
use Rattle.ca_wiring.specs.Linking.{IsLinkOf}
use Rattle.ca_linked.specs.Linked.{LinkedChip, IsWired}
use Rattle.ca_fault.specs.declared.fault.Fault.{Fault}
use Rattle.ca_make.specs.declared.gate.TheConstants.{MOST_GATES}
use Rattle.ca_make_laws.specs.Cells.{sound_library}
use Rattle.ca_make_laws.specs.ChipNetlist.{chip_netlist}
use Rattle.ca_make_laws.specs.Laws.{LibraryIsRead, NetlistIsRead}
use Rattle.ca_make_links.specs.Laws.{ChipKeepsRules}
use Rattle.ca_generating.specs.declared.making.TheConstants.{MAKE_BUDGET}
use Rattle.ca_on_chip.specs.OnChip.{IsTestsStage}
use Rattle.ca_generating.specs.Making.{IsMadeChip, IsMakeStage}
use Rattle.ca_on_chip.proofs.AskedLemmas.{pairs_fault}

-- a chip that links the netlist of a number over the library is the generated chip
pub is_made : (number : ℕ) (chip : LinkedChip) → LibraryIsRead → NetlistIsRead → ChipKeepsRules
    → All (λ named. IsEntry named.entry) sound_library → number ≤ MOST_GATES
    → IsWired chip → IsLinkOf (wiring_of (chip_netlist number) sound_library []) chip
    → chip.cells ≡ map (λ named. raw_of named.entry) sound_library → IsMadeChip number chip
is_made number chip library_read netlist_read rules entries few wired link cells = record {
  library = sound_library;
  netlist = chip_netlist number;
  cells_read = record { reads = library_read; entries = entries };
  netlist_read = netlist_read number few;
  is = record { wired = wired; kept = rules number few; link = link; cells = cells };
}

-- a chip whose pairs are too many has none
pub too_many : (number : ℕ) (chip : LinkedChip) (fault : Fault) → IsMadeChip number chip → IsTestsStage MAKE_BUDGET chip fault
    → IsMakeStage number fault
too_many number chip fault is (inl memory) = inl memory
too_many number chip fault is (inr cause) = inr (record {
  pairs = pairs_fault MAKE_BUDGET chip fault cause;
  chip = chip;
  is = is;
  cause = cause;
})
