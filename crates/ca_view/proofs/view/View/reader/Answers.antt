use Rattle.std.proofs.Common.{◌≡◌, ℕ, List, [], length, Some, sym, ◌∙◌, ap, subst, arith}
use Rattle.std.specs.Prelude.{slice_index}
use Rattle.std.proofs.lemmas.List.{get_or_default}
use Rattle.std.proofs.lemmas.Option.{slice_get-get_or}
use Rattle.ca_flat.specs.Chip.{Chip}
use Rattle.ca_view.specs.Readers.{row_at}
use Rattle.ca_view.specs.View.{Viewed}
use Rattle.ca_view.specs.code.View.{IsKept}
use Rattle.ca_view.proofs.ReaderLemmas.{row_count}
use Rattle.ca_view.proofs.view.View.reader.Goals as goal

pub returns : goal.returns
returns c =
    let v = c.args.self.now in
    let kept = subst (IsKept c.self.inside.pins) c.self.view_is c.self.invariant in
    let known = c.requires.known in
    let count = row_count v.chip v.readers kept.is_view.read in
    let rows = ap (λ (v : Viewed). length v.readers) c.self.view_is in
    let nets = ap (λ (core : Chip). length core.nets) kept.is_view.core_is in
    let same : c.index.result.now ≡ row_at v.readers c.args.net =
    c.index.ensures ∙ get_or_default c.self.inside.readers.items c.args.net c.index.result.now [] (omega arith)
    ∙ ap (λ (v : Viewed). row_at v.readers c.args.net) c.self.view_is in
    slice_get-get_or (row_at v.readers c.args.net) c.args.k 0 c.requires.within
    ∙ ap Some (sym (c.get.ensures ∙ ap (λ (row : List ℕ). slice_index row c.args.k) same))
