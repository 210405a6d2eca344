use Rattle.std.proofs.Common.{rules, sym, subst, ◌∙◌, ap, take, drop, List, ℕ}
use Rattle.ca_cert_text.specs.code.Cut.{len_before, IsOnlyCut}
use Rattle.ca_cert_text.proofs.CutLemmas.{cut_begins, cut_only}
use Rattle.ca_cert_text.proofs.cut.cut.Goals as goal

pub returns-clause-begins : goal.returns-clause-begins
returns-clause-begins c = search (rules, cut_begins)

pub returns-clause-only : goal.returns-clause-only
returns-clause-only c =
    let front = c.split_at.ensures.front ∙ ap (λ n. take n c.args.text.now) c.len_before.ensures.len in
    let back = c.split_at.ensures.back ∙ ap (λ n. drop n c.args.text.now) c.len_before.ensures.len in
    subst (IsOnlyCut c.args.byte c.args.text.now c.split_at.result.0.now) (sym back)
    (subst (λ (word : List ℕ). IsOnlyCut c.args.byte c.args.text.now word
    (drop (len_before c.args.byte c.args.text.now) c.args.text.now)) (sym front)
    (cut_only c.args.byte c.args.text.now))
