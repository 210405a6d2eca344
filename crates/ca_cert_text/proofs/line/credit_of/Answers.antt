use Rattle.std.proofs.Common.{arith, ap, sym, length}
use Rattle.ca_cert_text.proofs.WordLemmas.{credit_parts, tail_is}
use Rattle.ca_cert_text.proofs.line.credit_of.Goals as goal

pub returns-in_default-after : goal.returns-in_default-after
returns-in_default-after c = λ pair output few is.
    let parts = credit_parts c.args.text.now c.cut.result.0.now c.cut.result.1.now pair output few.0 c.cut.ensures.only is in
    omega (arith, ap length parts.1, c.in_default-after.len_below)

pub returns-in_default-number_of : goal.returns-in_default-number_of
returns-in_default-number_of c = λ pair output few is.
    let parts = credit_parts c.args.text.now c.cut.result.0.now c.cut.result.1.now pair output few.0 c.cut.ensures.only is in
    c.in_default-number_of.ensures pair few.0 (sym parts.0)

pub returns-in_default-number_of-2 : goal.returns-in_default-number_of-2
returns-in_default-number_of-2 c = λ pair output few is.
    let parts = credit_parts c.args.text.now c.cut.result.0.now c.cut.result.1.now pair output few.0 c.cut.ensures.only is in
    c.in_default-number_of-2.ensures output few.1 (tail_is c.cut.result.1.now 32 _ (sym parts.1))
