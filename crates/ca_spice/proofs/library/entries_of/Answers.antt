use Rattle.std.proofs.Common.{◌≡◌, ◌<◌, ◌∙◌, map, length, get_or, take, sym, subst, ap, map-id}
use Rattle.std.specs.List.{All}
use Rattle.std.proofs.lemmas.List.Elements.{All-push}
use Rattle.std.proofs.lemmas.Iterator.Adapters.{YieldsList-from_vec}
use Rattle.std.proofs.lemmas.Iterator.Consumers.{YieldsList-turn, YieldsList-end, YieldsList-so_far}
use Rattle.ca_cell.specs.Library.{Named, IsEntry, IsCause}
use Rattle.ca_cell.specs.declared.library.LibraryFault.{LibraryFault}
use Rattle.ca_cell.specs.declared.library.LibraryFault.TheVariants.{TooManyCells}
use Rattle.ca_cell.specs.declared.library.TheConstants.{MOST_CELLS}
use Rattle.ca_spice.specs.declared.subcircuit.Subcircuit.{Subcircuit}
use Rattle.ca_spice.specs.code.Kept.{IsPlacedCell}
use Rattle.ca_spice.specs.Reading.{resolved_cell}
use Rattle.ca_spice.specs.Views.{subcircuit_seen}
use Rattle.ca_spice.proofs.CellLemmas.{IsPlaced-IsRaw}
use Rattle.ca_spice.proofs.LibraryLemmas.{at_turn, upper_at, seen_grown, not_added, not_full}
use Rattle.ca_spice.proofs.library.entries_of.Goals as goal

pub resolved-requires : goal.resolved-requires
resolved-requires c =
    let all = c.args.cells.items in
    let given = c.into_iter-cell-iterator.ensures.into_iter_gives in
    let turn : (length c.cells.yielded < length all) × (c.in-Some.cell ≡ get_or all (length c.cells.yielded) c.in-Some.cell) =
    YieldsList-turn (YieldsList-from_vec {s = c.into_iter-cell-iterator.result} all given.0 (given.1 ∙ c.args.cells.ok.0)) c.cells.yielded _ c.cells.yielded_by _ c.next.new.self c.in-Some.cell
    c.in-Some.is c.next.ensures.steps in
    IsPlaced-IsRaw c.in-Some.cell.raw (at_turn (λ (cell : Subcircuit). IsPlacedCell cell.raw) all (length c.cells.yielded) c.in-Some.cell c.requires.placed turn)

pub unreachable-requires : goal.unreachable-requires
unreachable-requires c =
    let all = c.args.cells.items in
    let given = c.into_iter-cell-iterator.ensures.into_iter_gives in
    let list = YieldsList-from_vec {s = c.into_iter-cell-iterator.result} all given.0 (given.1 ∙ c.args.cells.ok.0) in
    let turn : (length c.cells.yielded < length all) × (c.in-Some.cell ≡ get_or all (length c.cells.yielded) c.in-Some.cell) =
    YieldsList-turn list c.cells.yielded _ c.cells.yielded_by _ c.next.new.self c.in-Some.cell c.in-Some.is c.next.ensures.steps in
    let so_far : c.cells.yielded ≡ take (length c.cells.yielded) all = sym (map-id c.cells.yielded) ∙ YieldsList-so_far list c.cells.yielded _ c.cells.yielded_by in
    not_added c.cells.library c.cells.yielded all c.in-Some.cell c.cells.invariant.seen so_far c.requires.distinct c.requires.upper turn
    (subst (λ (fault : LibraryFault). IsCause c.cells.library c.in-Some.cell.name fault) c.in-Err-DoubleName.field-0-is c.in-Err-DoubleName.ensures.cause)

pub unreachable-requires-in-Err-TooManyCells : goal.unreachable-requires-in-Err-TooManyCells
unreachable-requires-in-Err-TooManyCells c =
    let all = c.args.cells.items in
    let given = c.into_iter-cell-iterator.ensures.into_iter_gives in
    let list = YieldsList-from_vec {s = c.into_iter-cell-iterator.result} all given.0 (given.1 ∙ c.args.cells.ok.0) in
    let turn : (length c.cells.yielded < length all) × (c.in-Some.cell ≡ get_or all (length c.cells.yielded) c.in-Some.cell) =
    YieldsList-turn list c.cells.yielded _ c.cells.yielded_by _ c.next.new.self c.in-Some.cell c.in-Some.is c.next.ensures.steps in
    let full : IsCause c.cells.library c.in-Some.cell.name (TooManyCells c.in-Err-TooManyCells.field-0-0) =
    subst (λ (fault : LibraryFault). IsCause c.cells.library c.in-Some.cell.name fault) c.in-Err-TooManyCells.field-0-is c.in-Err-TooManyCells.ensures.cause in
    not_full c.cells.library c.cells.yielded MOST_CELLS (length all) c.cells.invariant.seen turn.0 c.requires.few full.1

pub cells-preserved : goal.cells-preserved
cells-preserved c =
    let all = c.args.cells.items in
    let given = c.into_iter-cell-iterator.ensures.into_iter_gives in
    let turn : (length c.cells.yielded < length all) × (c.in-Some.cell ≡ get_or all (length c.cells.yielded) c.in-Some.cell) =
    YieldsList-turn (YieldsList-from_vec {s = c.into_iter-cell-iterator.result} all given.0 (given.1 ∙ c.args.cells.ok.0)) c.cells.yielded _ c.cells.yielded_by _ c.next.new.self c.in-Some.cell
    c.in-Some.is c.next.ensures.steps in
    record {
      seen = ap (map subcircuit_seen) c.in-Ok.ensures.ok
          ∙ seen_grown c.cells.library c.cells.yielded c.in-Some.cell c.in_ok-entry.entry c.cells.invariant.seen
          (upper_at all (length c.cells.yielded) c.in-Some.cell c.requires.upper turn) (c.in_ok-entry.ensures.ok ∙ c.in_ok-resolved_raw.ensures.ok);
      entries = subst (All (λ (named : Named). IsEntry named.entry)) (sym c.in-Ok.ensures.ok)
          (All-push (λ (named : Named). IsEntry named.entry) c.cells.library _ c.cells.invariant.entries c.in_ok-entry.ensures.entry);
    }

pub returns : goal.returns
returns c =
    let given = c.into_iter-cell-iterator.ensures.into_iter_gives in
    let list = YieldsList-from_vec {s = c.into_iter-cell-iterator.result} c.args.cells.items given.0 (given.1 ∙ c.args.cells.ok.0) in
    let over = YieldsList-end list c.cells.yielded _ c.cells.yielded_by _ c.next.new.self c.in-None.is c.next.ensures.steps in
    record { cells = c.cells.invariant.seen ∙ ap (map resolved_cell) (sym (map-id c.cells.yielded) ∙ over.0); entries = c.cells.invariant.entries }
