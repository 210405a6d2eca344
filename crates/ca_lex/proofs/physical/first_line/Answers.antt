use Rattle.std.proofs.Common.{ℕ, ap, ◌∙◌, drop, take}
use Rattle.ca_lex.proofs.LineLemmas.{cut_at, following, after_nothing, after_feed}
use Rattle.ca_lex.proofs.physical.first_line.Goals as goal

pub returns-in-empty-clause-lines : goal.returns-in-empty-clause-lines
returns-in-empty-clause-lines c =
    cut_at c.args.text.now _ _ c.requires (c.split_at.ensures.front ∙ ap (λ (n : ℕ). take n c.args.text.now) c.line_len.ensures.len)
    (after_nothing _ c.in-empty.len_below ∙ ap following (c.split_at.ensures.back ∙ ap (λ (n : ℕ). drop n c.args.text.now) c.line_len.ensures.len))

pub returns-in-len1-up-clause-lines : goal.returns-in-len1-up-clause-lines
returns-in-len1-up-clause-lines c =
    cut_at c.args.text.now _ _ c.requires (c.split_at.ensures.front ∙ ap (λ (n : ℕ). take n c.args.text.now) c.line_len.ensures.len)
    (after_feed _ ∙ ap following (c.split_at.ensures.back ∙ ap (λ (n : ℕ). drop n c.args.text.now) c.line_len.ensures.len))
