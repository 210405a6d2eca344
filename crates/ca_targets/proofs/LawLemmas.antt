-- The laws of targets.
use Rattle.std.proofs.Common.{ℕ, List, sym, ◌∙◌, ap, subst, arith}
use Rattle.std.specs.List.{All}
use Rattle.std.proofs.lemmas.List.Elements.{All-weaker}
use Rattle.ca_flat.specs.declared.chip_defect.ChipDefect.{ChipDefect}
use Rattle.ca_flat.specs.Chip.{Chip}
use Rattle.ca_linked.specs.Linked.{LinkedChip, IsWired}
use Rattle.ca_view.specs.Core.{core_of}
use Rattle.ca_merged.specs.Merged.{merged}
use Rattle.ca_merged.specs.Bridge.{short_of}
use Rattle.ca_merged.proofs.Members.{cluster_is_one_lem}
use Rattle.ca_view.specs.Linked.{IsPlacedDefect, place_in}
use Rattle.ca_view.specs.View.{Viewed, IsViewOf}
use Rattle.ca_view.proofs.PartFacts.{library_known}
use Rattle.ca_view.proofs.RankLemmas.{library_place}
use Rattle.ca_targets.specs.Targets.{IsLibraryDefect}
use Rattle.ca_targets.specs.Laws.{OneCluster, LibraryDefectsArePlaced}

pub one_cluster_lem : OneCluster
one_cluster_lem chip bridge made other short other_short one two =
    let core = core_of chip in
    let same = cluster_is_one_lem core bridge.instance.0 bridge.m.0 bridge.n.0 one.members two.members one.are two.are in (
      one.merged.is.core ∙ ap (merged core) same ∙ sym two.merged.is.core,
      one.merged.short_is ∙ ap (λ (members : List ℕ). short_of core members bridge.instance.0 bridge.m.0 bridge.n.0) same ∙ sym two.merged.short_is,
    )

placed : (chip : LinkedChip) (view : Viewed) (short : ChipDefect) → IsWired chip → IsViewOf chip view → IsLibraryDefect chip short
    → IsPlacedDefect (core_of chip) (place_in view.ranks) short
placed chip view short wired is of = record {
  defect_is = of.defect_is;
  placed = (let rank = (library_place chip wired short.instance of.library).rank in
      let here = is.ranked.each short.instance (library_known chip short.instance of.library) in omega arith);
}

pub library_defects_are_placed_lem : LibraryDefectsArePlaced
library_defects_are_placed_lem chip view shorts wired is are =
    subst (λ (core : Chip). All (IsPlacedDefect core (place_in view.ranks)) shorts) (sym is.core_is)
    (All-weaker (IsLibraryDefect chip) (IsPlacedDefect (core_of chip) (place_in view.ranks)) (λ short of. placed chip view short wired is of) shorts are)
