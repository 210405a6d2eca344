use Rattle.std.proofs.Common.{arith, ◌-◌, ap, sym, ◌∙◌, get_or}
use Rattle.std.proofs.lemmas.List.Sums.{fold_more}
use Rattle.ca_lex.specs.Length.{with_digit}
use Rattle.ca_lex.proofs.DigitLemmas.{digit_after, room_so_far}
use Rattle.ca_lex.proofs.length.with_digits.Goals as goal

pub overflow_mul-value : goal.overflow_mul-value
overflow_mul-value c =
    omega (arith, room_so_far c.args.number c.loop-digit.digit-index _ (omega arith) c.requires.room, c.loop-digit.invariant.1)

pub overflow_add-value : goal.overflow_add-value
overflow_add-value c =
    let bounds = c.requires.digits c.loop-digit.digit-index (omega arith) in
    omega (arith, room_so_far c.args.number c.loop-digit.digit-index _ (omega arith) c.requires.room, c.loop-digit.invariant.1, bounds.0, bounds.1)

pub loop-digit-preserved : goal.loop-digit-preserved
loop-digit-preserved c =
    let bounds = c.requires.digits c.loop-digit.digit-index (omega arith) in (
      ap (λ n. with_digit n (get_or c.args.digits.now c.loop-digit.digit-index 0)) c.loop-digit.invariant.0 ∙ sym (fold_more with_digit c.args.number c.args.digits.now c.loop-digit.digit-index 0 (omega arith)),
      digit_after c.loop-digit.value c.args.number c.loop-digit.digit-index (get_or c.args.digits.now c.loop-digit.digit-index 0 - 48) c.loop-digit.invariant.1 (omega (arith, bounds.1)),
    )
