use Rattle.std.proofs.Common.{ℕ, ◌<◌, length, sym, subst, arith}
use Rattle.ca_view.specs.View.{Viewed}
use Rattle.ca_view.specs.code.View.{IsKept}
use Rattle.ca_view.specs.Linked.{IsPlaced, place_in}
use Rattle.ca_view.specs.Places.{cell_number}
use Rattle.ca_view.proofs.LinkedLemmas.{number_within}
use Rattle.ca_view.proofs.view.View.numbers.Goals as goal

pub returns : goal.returns
returns c =
    subst (λ (v : Viewed). (u : ℕ) → IsPlaced v.core (place_in v.ranks) u → cell_number v.chip u < c.library_cells.result) c.self.view_is (λ u placed.
    let i = c.self.inside in
    let less = number_within i.chip.now c.self.invariant.wired i.ranks.items c.self.invariant.is_view.ranked u placed in
    let count = c.library_cells.ensures in
    omega arith)
