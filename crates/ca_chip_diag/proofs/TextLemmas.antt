-- The defects of a linked chip, as the writer of the text asks for them.
use Rattle.std.proofs.Common.{◌≡◌, ◌<◌, List, length, subst, sym}
use Rattle.std.specs.List.{All}
use Rattle.std.proofs.lemmas.List.Elements.{All-weaker}
use Rattle.ca_flat.specs.declared.chip_defect.ChipDefect.{ChipDefect}
use Rattle.ca_linked.specs.Linked.{IsWired}
use Rattle.ca_view.specs.Core.{core_of}
use Rattle.ca_view.specs.Linked.{IsPlacedDefect, place_in}
use Rattle.ca_view.specs.View.{Viewed, IsViewOf}
use Rattle.ca_view.proofs.LinkedLemmas.{placed_is_library}
use Rattle.ca_chip_report.specs.ChipReport.{IsGateDefect}
use Rattle.ca_diag.specs.declared.candidate.Candidate.{Candidate}

-- each is one of a library instance
pub gates : (view : Viewed) (list : List ChipDefect) → IsViewOf view.chip view → IsWired view.chip
    → All (IsPlacedDefect (core_of view.chip) (place_in view.ranks)) list → All (IsGateDefect view.chip) list
gates view list are wired placed =
    All-weaker (IsPlacedDefect (core_of view.chip) (place_in view.ranks)) (IsGateDefect view.chip) (λ defect one. record {
      is_defect = one.defect_is;
      is_gate = placed_is_library view.chip wired view.ranks are.ranked defect.instance
          (record { known = one.defect_is.known; placed = one.placed });
    }) list placed

-- the candidates are among them
pub of_task : (list defects : List ChipDefect) (candidates : List Candidate) → list ≡ defects
    → All (λ one. one.defect < length defects) candidates → All (λ one. one.defect < length list) candidates
of_task list defects candidates is within =
    subst (λ (given : List ChipDefect). All (λ one. one.defect < length given) candidates) (sym is) within
