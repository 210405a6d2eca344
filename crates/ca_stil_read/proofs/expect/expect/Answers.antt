use Rattle.std.proofs.Common.{sym, ◌∙◌}
use Rattle.std.specs.Str.{bytes_eq}
use Rattle.ca_stil_form.specs.Tokens.{tokens_of}
use Rattle.ca_stil_read.proofs.ExpectLemmas.{read_over, read_early, read_other, read_same, unequal, equal}
use Rattle.ca_stil_read.proofs.expect.expect.Goals as goal

pub returns-in_default : goal.returns-in_default
returns-in_default c = sym c.tokens.invariant ∙ read_over (tokens_of c.tokens.wanted.now) (tokens_of c.tokens.rest.now) c.in_default.ensures

pub returns-in_default-first_token : goal.returns-in_default-first_token
returns-in_default-first_token c =
    sym c.tokens.invariant ∙ read_early (tokens_of c.tokens.wanted.now) c.in-Some.want.now (tokens_of c.in-Some.more.now) (tokens_of c.tokens.rest.now) c.in-Some.ensures.0 c.in_default-first_token.ensures

pub returns-then-ne : goal.returns-then-ne
returns-then-ne c =
    sym c.tokens.invariant ∙ read_other (tokens_of c.tokens.wanted.now) c.in-Some.want.now (tokens_of c.in-Some.more.now) (tokens_of c.tokens.rest.now)
    c.in-Some-first_token.token.now (tokens_of c.in-Some-first_token.after.now) c.in-Some.ensures.0 c.in-Some-first_token.ensures.0
    (unequal c.ne.result (bytes_eq c.in-Some.want.now c.in-Some-first_token.token.now) c.if-ne.true c.ne.ensures)

pub tokens-preserved : goal.tokens-preserved
tokens-preserved c =
    sym (read_same (tokens_of c.tokens.wanted.now) c.in-Some.want.now (tokens_of c.in-Some.more.now) (tokens_of c.tokens.rest.now)
    c.in-Some-first_token.token.now (tokens_of c.in-Some-first_token.after.now) c.in-Some.ensures.0 c.in-Some-first_token.ensures.0
    (equal c.ne.result (bytes_eq c.in-Some.want.now c.in-Some-first_token.token.now) c.if-ne.false c.ne.ensures)) ∙ c.tokens.invariant
