use Rattle.ca_cert_text.proofs.WordLemmas.{not_space, no_token, next_code, one_token, tokens_push}
use Rattle.ca_cert_text.proofs.code.code_of.Goals as goal

pub returns-then-space-ne32 : goal.returns-then-space-ne32
returns-then-space-ne32 c = λ code are is.
    not_space c.words.rest.now c.in-len1-up.len_at_least c.if-space-ne32.true
    (c.words.invariant.leaves (record { code = code; are = are; is = is }))

pub returns-in_default-token_of : goal.returns-in_default-token_of
returns-in_default-token_of c = λ code are is.
    no_token c.words.rest.now c.cut.result.0.now c.cut.result.1.now c.in-len1-up.len_at_least c.cut.ensures.only
    c.in_default-token_of.ensures (c.words.invariant.leaves (record { code = code; are = are; is = is }))

pub words-preserved : goal.words-preserved
words-preserved c =
    let pushed = c.in_ok-push.ensures.ok in
    let read = c.in-Some.ensures in
    record {
      are = tokens_push c.words.code c.push.new.self c.in-Some.token c.words.invariant.are read.0 pushed;
      read = one_token c.args.text.now c.words.code c.push.new.self c.words.rest.now c.cut.result.0.now c.cut.result.1.now
          c.in-Some.token c.words.invariant.read c.in-len1-up.len_at_least c.if-space-ne32.false c.cut.ensures.parts read.1 pushed;
      leaves = λ whole. next_code c.words.rest.now c.cut.result.0.now c.cut.result.1.now c.in-len1-up.len_at_least
          c.cut.ensures.only (c.words.invariant.leaves whole);
    }
