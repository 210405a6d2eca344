use Rattle.std.proofs.Common.{◌≡◌, true, ap, ◌∙◌}
use Rattle.ca_lex.specs.Words.{upper_case}
use Rattle.ca_cell.proofs.CaseLemmas.{front_is}
use Rattle.ca_cell.proofs.search.following.Goals as goal

pub returns-else-is_alike-clause-none : goal.returns-else-is_alike-clause-none
returns-else-is_alike-clause-none c = λ rest begins.
    let front = front_is c.args.text.now c.args.piece.now rest begins in
    let alike : c.is_alike.result ≡ true = c.is_alike.ensures.1 (ap upper_case c.split_at.ensures.front ∙ front.1) in
    cc
