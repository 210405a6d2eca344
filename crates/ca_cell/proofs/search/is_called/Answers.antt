use Rattle.std.proofs.Common.{◌++◌, false, ap, sym, ◌∙◌, true≢false}
use Rattle.ca_lex.specs.Words.{upper_case}
use Rattle.ca_cell.specs.Name.{name_of}
use Rattle.ca_cell.proofs.CaseLemmas.{others_after, three_pieces}
use Rattle.ca_cell.proofs.FindLemmas.{reports_name}
use Rattle.ca_cell.proofs.search.is_called.Goals as goal

pub returns-in_default-following : goal.returns-in_default-following
returns-in_default-following c =
    reports_name c.args.cell.now c.args.text.now c.args.defect false (λ yes. absurd (true≢false (sym yes)))
    (λ same. absurd (c.in_default-following.ensures.none (upper_case c.parts_of-parts.result.second.now)
    (others_after (upper_case c.args.text.now) (upper_case c.parts_of-parts.result.first.now) c.parts_of-parts.result.mark.now
    (upper_case c.parts_of-parts.result.second.now) (upper_case c.in-Some.after_first.now) (name_of c.args.cell.now c.args.defect)
    c.parts_of-parts.ensures.name c.in-Some.ensures.some same
    ∙ ap (λ mark. mark ++ upper_case c.parts_of-parts.result.second.now) (sym c.parts_of-parts.ensures.mark))))

pub returns : goal.returns
returns c =
    let pieces = three_pieces (upper_case c.args.text.now) (upper_case c.parts_of-parts.result.first.now) c.parts_of-parts.result.mark.now
    (upper_case c.parts_of-parts.result.second.now) (upper_case c.in-Some.after_first.now) (upper_case c.in-Some-following.after_mark.now)
    (name_of c.args.cell.now c.args.defect) c.parts_of-parts.ensures.name c.in-Some.ensures.some
    (c.in-Some-following.ensures.some ∙ ap (λ mark. mark ++ upper_case c.in-Some-following.after_mark.now) c.parts_of-parts.ensures.mark) in
    reports_name c.args.cell.now c.args.text.now c.args.defect c.is_alike.result (λ yes. pieces.0 (c.is_alike.ensures.0 yes))
    (λ same. c.is_alike.ensures.1 (pieces.1 same))
