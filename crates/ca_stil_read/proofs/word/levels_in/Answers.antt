use Rattle.std.proofs.Common.{◌==◌, ℕ, ap, ◌∙◌}
use Rattle.std.specs.List.{list_all}
use Rattle.ca_stil_read.specs.code.Kept.{is_level}
use Rattle.ca_stil_read.proofs.WordLemmas.{levels_some, levels_none, not_so, is_so}
use Rattle.ca_stil_read.proofs.word.levels_in.Goals as goal

pub returns-then-not-all_are : goal.returns-then-not-all_are
returns-then-not-all_are c =
    levels_none c.args.used c.args.filled c.args.token.now (λ is.
    not_so c.all_are.result _ c.if-not-all_are.true c.all_are.ensures
    (ap (list_all (λ (byte : ℕ). byte == 88)) c.split_at.ensures.back ∙ is.xs))

pub returns-then-not-all_levels : goal.returns-then-not-all_levels
returns-then-not-all_levels c =
    levels_none c.args.used c.args.filled c.args.token.now (λ is.
    not_so c.all_levels.result _ c.if-not-all_levels.true c.all_levels.ensures
    (ap (list_all is_level) c.split_at.ensures.front ∙ is.levels))

pub returns : goal.returns
returns c =
    levels_some c.args.used c.args.filled c.args.token.now c.split_at.result.0.now c.split_at.result.1.now
    c.if-token-used.false c.split_at.ensures.front c.split_at.ensures.back c.if-fill-filled.false
    (is_so c.all_are.result _ c.if-not-all_are.false c.all_are.ensures)
    (is_so c.all_levels.result _ c.if-not-all_levels.false c.all_levels.ensures)
