use Rattle.std.proofs.Common.{◌<◌, subst, sym}
use Rattle.ca_cluster.specs.code.Marks.{Back, IsHot}
use Rattle.ca_cluster.proofs.SpreadLemmas.{spread_same, spread_none, library_known}
use Rattle.ca_cluster.proofs.marks.pass_back.Goals as goal

pub is_hot-requires-clause-seeds : goal.is_hot-requires-clause-seeds
is_hot-requires-clause-seeds c = subst (λ n. c.args.u.0 < n) (sym c.requires.seeds) (library_known c.args.chip.now c.args.u.0 c.requires.library)

pub is_hot-requires-clause-room : goal.is_hot-requires-clause-room
is_hot-requires-clause-room c = subst (λ n. c.args.u.0 < n) (sym c.requires.room) (library_known c.args.chip.now c.args.u.0 c.requires.library)

pub returns-then-is_hot : goal.returns-then-is_hot
returns-then-is_hot c =
    let hot = c.is_hot.ensures.0 c.if-is_hot.true in
    spread_same (Back c.args.chip.now c.args.u.0) (λ x. IsHot c.args.at.now c.args.marks.now c.args.u.0 × Back c.args.chip.now c.args.u.0 x)
    c.args.marks.now c.mark_feeding.new.marks (λ x. (λ f. (hot, f), λ h. h.1)) c.mark_feeding.ensures

pub returns-else-is_hot : goal.returns-else-is_hot
returns-else-is_hot c =
    spread_none (λ x. IsHot c.args.at.now c.args.marks.now c.args.u.0 × Back c.args.chip.now c.args.u.0 x) c.args.marks.now
    (λ x h. let holds = c.is_hot.ensures.1 h.0 in let fails = c.if-is_hot.false in cc)
