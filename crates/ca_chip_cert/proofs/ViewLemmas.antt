-- The view of a chip shows its core and its defects.
use Rattle.std.proofs.Common.{◌≡◌, List, Option, None, Some, sym, subst}
use Rattle.ca_flat.specs.declared.chip_defect.ChipDefect.{ChipDefect}
use Rattle.ca_flat.specs.Chip.{Chip}
use Rattle.ca_linked.specs.Linked as linked
use Rattle.ca_linked.specs.Linked.{IsWired}
use Rattle.ca_linked.specs.Instances.{gates_of}
use Rattle.ca_view.specs.Core.{core_of}
use Rattle.ca_flatten.specs.Few.{IsFew}
use Rattle.ca_flatten.specs.Laws.{FlatIsWellFormed}
use Rattle.ca_view.specs.View.{Viewed, IsViewOf}
use Rattle.ca_chip_defects.specs.ChipDefects.{chip_defects}
use Rattle.ca_examiner.specs.ChipExaminer.{AreNetworks}
use Rattle.ca_chip_cert.specs.Listed.{listed_defects, viewed_defects}

-- the defects of the chip that is viewed are its own
pub viewed_list : (chip : linked.LinkedChip) (view : Viewed) → IsViewOf chip view → viewed_defects view ≡ listed_defects chip
viewed_list chip view is = λ i. chip_defects (is.core_is i) (gates_of (is.chip_is i))

-- its flat networks are networks where they are small enough
pub viewed_networks : (view : Viewed) → IsWired view.chip → IsViewOf view.chip view → FlatIsWellFormed
    → ((given : Option ChipDefect) → IsFew (core_of view.chip) given) → AreNetworks view.core
viewed_networks view wired is law few = subst AreNetworks (sym is.core_is) (record {
  good_is = law view.chip None wired tt (few None);
  faulty_are = λ defect one. law view.chip (Some defect) wired one (few (Some defect));
})
