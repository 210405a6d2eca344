use Rattle.std.proofs.Common.{List, sym, ap, ◌∙◌}
use Rattle.std.specs.Str.{bytes_eq}
use Rattle.ca_stil_form.specs.Tokens.{tokens_of}
use Rattle.ca_stil_read.proofs.ExpectLemmas.{read_over, read_early, read_other, read_same, unequal, equal}
use Rattle.ca_stil_read.proofs.ExpectLemmas.{split_first, none_left}
use Rattle.ca_stil_read.proofs.due.pass.Goals as goal

pub returns-in_default-first_token : goal.returns-in_default-first_token
returns-in_default-first_token c =
    sym c.tokens.invariant
    ∙ read_early c.tokens.wanted.now c.want-item.result _ (tokens_of c.tokens.rest.now)
    (split_first c.tokens.wanted.now c.want-item.result c.in-len1-up.len_at_least c.want-item.is) c.in_default-first_token.ensures

pub returns-then-ne : goal.returns-then-ne
returns-then-ne c =
    sym c.tokens.invariant
    ∙ read_other c.tokens.wanted.now c.want-item.result _ (tokens_of c.tokens.rest.now)
    c.in-Some.token.now (tokens_of c.in-Some.after.now)
    (split_first c.tokens.wanted.now c.want-item.result c.in-len1-up.len_at_least c.want-item.is) c.in-Some.ensures.0
    (ap (λ (want : List _). bytes_eq want c.in-Some.token.now) (sym c.as_bytes.ensures)
    ∙ unequal c.ne.result (bytes_eq c.as_bytes.result.now c.in-Some.token.now) c.if-ne.true c.ne.ensures)

pub tokens-preserved : goal.tokens-preserved
tokens-preserved c =
    sym (read_same c.tokens.wanted.now c.want-item.result _ (tokens_of c.tokens.rest.now)
    c.in-Some.token.now (tokens_of c.in-Some.after.now)
    (split_first c.tokens.wanted.now c.want-item.result c.in-len1-up.len_at_least c.want-item.is) c.in-Some.ensures.0
    (ap (λ (want : List _). bytes_eq want c.in-Some.token.now) (sym c.as_bytes.ensures)
    ∙ equal c.ne.result (bytes_eq c.as_bytes.result.now c.in-Some.token.now) c.if-ne.false c.ne.ensures))
    ∙ c.tokens.invariant

pub returns : goal.returns
returns c =
    sym c.tokens.invariant ∙ read_over c.tokens.wanted.now (tokens_of c.tokens.rest.now) (none_left c.tokens.wanted.now c.in_default.len_below)
