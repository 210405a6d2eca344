use Rattle.std.proofs.Common.{◌∙◌, ◌+◌, ◌++◌, ap, sym}
use Rattle.std.specs.Prelude.{drop}
use Rattle.std.proofs.lemmas.List.{append_assoc}
use Rattle.ca_linked.specs.Instances.{if_scan, scans_from}
use Rattle.ca_linked.proofs.EndLemmas.{drop_at}
use Rattle.ca_linked.proofs.pins.scans_of.Goals as goal

pub loop-u-preserved : goal.loop-u-preserved
loop-u-preserved c =
    let parts = c.args.draft.now.parts in
    let rest = scans_from (c.loop-u.u + 1) (drop (c.loop-u.u + 1) parts) in
    c.loop-u.invariant ∙ ap (λ from. c.loop-u.list ++ scans_from c.loop-u.u from) (drop_at parts c.loop-u.u c.part.result.now c.part.ensures)
    ∙ sym (append_assoc c.loop-u.list (if_scan c.loop-u.u c.part.result.now.body) rest)
    ∙ ap (λ list. list ++ rest) (sym (c.in_ok-push_scan.ensures {u = tt}))
