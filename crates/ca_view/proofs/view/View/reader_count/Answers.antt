use Rattle.std.proofs.Common.{◌≡◌, ℕ, List, [], length, ◌∙◌, ap, subst, arith}
use Rattle.std.proofs.lemmas.List.{get_or_default}
use Rattle.ca_flat.specs.Chip.{Chip}
use Rattle.ca_view.specs.Readers.{row_at}
use Rattle.ca_view.specs.View.{Viewed}
use Rattle.ca_view.specs.code.View.{IsKept}
use Rattle.ca_view.proofs.ReaderLemmas.{row_count}
use Rattle.ca_view.proofs.view.View.reader_count.Goals as goal

pub index-requires : goal.index-requires
index-requires c =
    let v = c.args.self.now in
    let kept = subst (IsKept c.self.inside.pins) c.self.view_is c.self.invariant in
    let known = c.requires in
    let count = row_count v.chip v.readers kept.is_view.read in
    let rows = ap (λ (v : Viewed). length v.readers) c.self.view_is in
    let nets = ap (λ (core : Chip). length core.nets) kept.is_view.core_is in
    omega arith

pub returns : goal.returns
returns c =
    let v = c.args.self.now in
    let kept = subst (IsKept c.self.inside.pins) c.self.view_is c.self.invariant in
    let known = c.requires in
    let count = row_count v.chip v.readers kept.is_view.read in
    let rows = ap (λ (v : Viewed). length v.readers) c.self.view_is in
    let nets = ap (λ (core : Chip). length core.nets) kept.is_view.core_is in
    let same : c.index.result.now ≡ row_at v.readers c.args.net =
    c.index.ensures ∙ get_or_default c.self.inside.readers.items c.args.net c.index.result.now [] (omega arith)
    ∙ ap (λ (v : Viewed). row_at v.readers c.args.net) c.self.view_is in
    c.len.ensures ∙ ap (λ (row : List ℕ). length row) same
