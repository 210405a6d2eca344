use Rattle.std.proofs.Common.{◌≡◌, ◌∙◌, sym, ap, subst, List}
use Rattle.std.specs.Prelude.{IfSome, IsSomeAnd, Option}
use Rattle.ca_judge.specs.Attempt.{IsTriedOn}
use Rattle.ca_sweep.specs.Seen.{IsForChip}
use Rattle.ca_view.specs.View.{Viewed}
use Rattle.ca_flat.specs.declared.chip_defect.ChipDefect.{ChipDefect}
use Rattle.std.specs.List.{All}
use Rattle.std.proofs.lemmas.List.Elements.{All-get_or}
use Rattle.std.proofs.lemmas.Option.{get_or_from_slice_get}
use Rattle.ca_flat.specs.Chip.{Chip}
use Rattle.ca_linked.specs.Linked.{LinkedChip}
use Rattle.ca_view.specs.Core.{core_of}
use Rattle.ca_targets.specs.declared.target.Cluster.{Cluster}
use Rattle.ca_targets.specs.Targets.{IsLibraryDefect}
use Rattle.ca_bridges.specs.code.Parts.{IsPartOf}
use Rattle.ca_bridges.proofs.parts.cluster_part.Goals as goal

pub part_of-requires-clause-rows : goal.part_of-requires-clause-rows
part_of-requires-clause-rows g c =
    let cluster = c.cluster_at-cluster.result.now in
    let view = c.view_at-view.result.now in
    let is = c.requires.views.each c.args.k cluster view c.cluster_at-cluster.ensures c.view_at-view.ensures in
    c.requires.rows.each c.args.k cluster c.row_at-row.result.now c.cluster_at-cluster.ensures c.row_at-row.ensures ∙ sym is.core_is

pub part_of-requires-clause-choice : goal.part_of-requires-clause-choice
part_of-requires-clause-choice g c =
    subst (λ (it : Option Viewed). IfSome it (λ view. IsTriedOn view.core view.ranks (g.P.Attempts.tried c.args.choice))) c.view_at-view.ensures
    c.requires.choice

pub part_of-requires-clause-finder : goal.part_of-requires-clause-finder
part_of-requires-clause-finder g c =
    subst (λ (it : Option Viewed). IfSome it (λ view. IsForChip view.core view.ranks (g.F.FlipFinder.loaded c.args.finder))) c.view_at-view.ensures
    c.requires.finder

pub part_of-requires-clause-shorts : goal.part_of-requires-clause-shorts
part_of-requires-clause-shorts g c =
    let cluster = c.cluster_at-cluster.result.now in
    let view = c.view_at-view.result.now in
    let clusters = c.args.clusters.now in
    let is = c.requires.views.each c.args.k cluster view c.cluster_at-cluster.ensures c.view_at-view.ensures in
    let its : All (IsLibraryDefect cluster.chip) cluster.shorts =
    subst (λ (it : Cluster). All (IsLibraryDefect it.chip) it.shorts)
    (get_or_from_slice_get clusters c.args.k cluster cluster c.cluster_at-cluster.ensures)
    (All-get_or (λ (it : Cluster). All (IsLibraryDefect it.chip) it.shorts) clusters c.args.k cluster c.requires.within c.requires.shorts) in
    subst (λ (chip : LinkedChip). All (IsLibraryDefect chip) cluster.shorts) (sym is.chip_is) its

pub returns : goal.returns
returns g c =
    let cluster = c.cluster_at-cluster.result.now in
    let view = c.view_at-view.result.now in
    let budget = c.args.budget in
    let part = c.in_ok-part.part in
    let is = c.requires.views.each c.args.k cluster view c.cluster_at-cluster.ensures c.view_at-view.ensures in
    let made : IsPartOf (core_of cluster.chip) cluster.shorts budget part =
    subst (λ (core : Chip). IsPartOf core cluster.shorts budget part) is.core_is c.in_ok-part.ensures in
    subst (λ it. IsSomeAnd it (λ (cluster : Cluster). IsPartOf (core_of cluster.chip) cluster.shorts budget part)) (sym c.cluster_at-cluster.ensures) made
