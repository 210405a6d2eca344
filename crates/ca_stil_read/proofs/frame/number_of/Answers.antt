use Rattle.std.proofs.Common.{◌+◌, ◌*◌, arith}
use Rattle.ca_lex.specs.Length.{number_of}
use Rattle.ca_stil_read.proofs.FrameLemmas.{too_large_so, not_below}
use Rattle.ca_stil_read.proofs.frame.number_of.Goals as goal

pub returns-in_default-checked_mul : goal.returns-in_default-checked_mul
returns-in_default-checked_mul c =
    let large = not_below (c.digits.number * 10) _ c.in_default-checked_mul.ensures in
    too_large_so c.digits.number _ (number_of c.args.digits.now) c.digits.rest.now c.in-len1-up.len_at_least c.digits.invariant
    (omega (arith, large))

pub returns-in_default-checked_add : goal.returns-in_default-checked_add
returns-in_default-checked_add c =
    let large = not_below (c.in-Some.moved + c.saturating_sub.result) _ c.in_default-checked_add.ensures in
    let moved = c.in-Some.ensures in
    let taken = c.saturating_sub.ensures in
    too_large_so c.digits.number _ (number_of c.args.digits.now) c.digits.rest.now c.in-len1-up.len_at_least c.digits.invariant
    (grind arith)
