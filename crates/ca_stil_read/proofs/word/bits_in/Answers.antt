use Rattle.std.proofs.Common.{◌==◌, ℕ, ap, ◌∙◌}
use Rattle.std.specs.List.{list_all}
use Rattle.ca_stil_read.specs.code.Kept.{is_bit}
use Rattle.ca_stil_read.proofs.WordLemmas.{bits_some, bits_none, not_so, is_so}
use Rattle.ca_stil_read.proofs.word.bits_in.Goals as goal

pub returns-then-not-all_are : goal.returns-then-not-all_are
returns-then-not-all_are c =
    bits_none c.args.used c.args.filled c.args.token.now (λ is.
    not_so c.all_are.result _ c.if-not-all_are.true c.all_are.ensures
    (ap (list_all (λ (byte : ℕ). byte == 48)) c.split_at.ensures.front ∙ is.zeros))

pub returns-then-not-all_bits : goal.returns-then-not-all_bits
returns-then-not-all_bits c =
    bits_none c.args.used c.args.filled c.args.token.now (λ is.
    not_so c.all_bits.result _ c.if-not-all_bits.true c.all_bits.ensures
    (ap (list_all is_bit) c.split_at.ensures.back ∙ is.bits))

pub returns : goal.returns
returns c =
    bits_some c.args.used c.args.filled c.args.token.now c.split_at.result.0.now c.split_at.result.1.now
    c.if-token-filled.false c.split_at.ensures.front c.split_at.ensures.back c.if-digits-used.false
    (is_so c.all_are.result _ c.if-not-all_are.false c.all_are.ensures)
    (is_so c.all_bits.result _ c.if-not-all_bits.false c.all_bits.ensures)
